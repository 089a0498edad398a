-- Tick rules 1 to 12 (docs/DOCSIS-PIE.md, part 6; RFC 8034, A.2), but for the clock of the last tick, which the queue keeps.
use Rattle.std.specs.Prelude.{Bool, cond, ◌&&◌, ℕ, ◌+◌, ◌-◌, ◌*◌, eqb, ltb}
use Rattle.units.specs.Kinds.{micros, none, prob}
use Rattle.docsis_pie.specs.Constants.{active, activity, inactive, period, quiescent, reset_timeout}
use Rattle.docsis_pie.specs.Delay.{delay_of}
use Rattle.docsis_pie.specs.Probability.{next_prob}
use Rattle.docsis_pie.specs.declared.DocsisPie.{DocsisPie}
use Rattle.docsis_pie.specs.declared.Phase.{Phase}

-- rule 2: a difference of natural numbers is not below 0
abbrev pub next_allowance : (allowance : ℕ) → ℕ
next_allowance allowance = allowance - period

-- rule 9: p and allowance are those after rule 8
abbrev pub is_quiet : (p allowance delay old target : ℕ) → Bool
is_quiet p allowance delay old target = eqb p none && eqb allowance 0 && ltb (2 * delay) target && ltb (2 * old) target

abbrev pub phase : (to reset : ℕ) → Phase
phase to reset = record { activity = activity to; reset = micros reset }

-- rule 11: a quiescent flow whose reset time is above 1,000,000 becomes inactive
abbrev pub waited : (reset : ℕ) → Phase
waited reset = cond (ltb reset_timeout reset) (phase inactive 0) (phase quiescent reset)

-- rule 10, for a flow that was active; rule 11, for one that was quiescent; an inactive one stays
unfoldable pub phase_after : (quiet : Bool) → Phase → Phase
phase_after quiet before =
    cond (eqb before.activity.0 active) (cond quiet (phase quiescent 0) before)
    (cond (eqb before.activity.0 quiescent) (waited (cond quiet (before.reset.0 + period) 0))
    before)

-- rules 1 to 12; rule 12: old delay becomes delay
unfoldable pub updated : DocsisPie → (target bytes credits peak sustained : ℕ) → DocsisPie
updated pie target bytes credits peak sustained =
    let old = pie.old.0 in
    let delay = delay_of bytes credits peak sustained in
    let p = next_prob pie.prob.0 pie.allowance.0 delay old target in
    let allowance = next_allowance pie.allowance.0 in
    record {
      prob = prob p;
      accumulated = pie.accumulated;
      old = micros delay;
      allowance = micros allowance;
      phase = phase_after (is_quiet p allowance delay old target) pie.phase;
    }
