-- Arrival rules 3 to 15 (docs/DOCSIS-PIE.md, part 4; RFC 8034, A.3): in order, until one gives the verdict.
use Rattle.std.specs.Prelude.{Bool, cond, ◌&&◌, ℕ, ◌+◌, ◌*◌, ◌/◌, min, leb, ltb, eqb}
use Rattle.units.specs.Kinds.{micros, none, prob, whole}
use Rattle.pie.specs.Verdicts.{is_early}
use Rattle.pie.specs.declared.Verdict.{Verdict}
use Rattle.pie.specs.declared.Verdict.TheVariants.{Enqueued, DroppedEarly}
use Rattle.docsis_pie.specs.Constants.{active, activity, full_allowance, high, inactive, low, mean_packet, quiescent, small_queue}
use Rattle.docsis_pie.specs.declared.Decided.{Decided}
use Rattle.docsis_pie.specs.declared.DocsisPie.{DocsisPie}

-- ── the record with one part changed ──

abbrev pub with_accumulated : DocsisPie → (accumulated : ℕ) → DocsisPie
with_accumulated pie accumulated =
    record { prob = pie.prob; accumulated = prob accumulated; old = pie.old; allowance = pie.allowance; phase = pie.phase }

-- the activity alone; the reset time stays
abbrev pub with_activity : DocsisPie → (to : ℕ) → DocsisPie
with_activity pie to =
    record {
      prob = pie.prob;
      accumulated = pie.accumulated;
      old = pie.old;
      allowance = pie.allowance;
      phase = record { activity = activity to; reset = pie.phase.reset };
    }

abbrev pub with_allowance : DocsisPie → (allowance : ℕ) → DocsisPie
with_allowance pie allowance =
    record { prob = pie.prob; accumulated = pie.accumulated; old = pie.old; allowance = micros allowance; phase = pie.phase }

abbrev pub is_inactive : DocsisPie → Bool
is_inactive pie = eqb pie.phase.activity.0 inactive

abbrev pub is_quiescent : DocsisPie → Bool
is_quiescent pie = eqb pie.phase.activity.0 quiescent

-- ── the rules ──

-- rule 3
abbrev pub in_allowance : DocsisPie → Bool
in_allowance pie = ltb 0 pie.allowance.0

-- rule 4: where p is 0, accumulated becomes 0
abbrev pub cleared : DocsisPie → DocsisPie
cleared pie = cond (eqb pie.prob.0 none) (with_accumulated pie none) pie

-- rule 5
abbrev pub stays_inactive : DocsisPie → (buffer bytes : ℕ) → Bool
stays_inactive pie buffer bytes = is_inactive pie && ltb (3 * bytes) buffer

-- rule 6: an inactive flow becomes quiescent
abbrev pub no_longer_inactive : DocsisPie → DocsisPie
no_longer_inactive pie = cond (is_inactive pie) (with_activity pie quiescent) pie

-- rule 7: scaled
unfoldable pub scaled_of : (p size : ℕ) → ℕ
scaled_of p size = min (p * size / mean_packet) low

-- rule 8: scaled is added to accumulated, which stops at 8.5
abbrev pub summed : DocsisPie → (scaled : ℕ) → DocsisPie
summed pie scaled = with_accumulated pie (min (pie.accumulated.0 + scaled) high)

-- rule 9
abbrev pub lightly_loaded : DocsisPie → (target : ℕ) → Bool
lightly_loaded pie target = ltb (2 * pie.old.0) target && ltb (5 * pie.prob.0) whole

-- rule 10
abbrev pub is_small : (bytes : ℕ) → Bool
is_small bytes = leb bytes small_queue

-- rule 11
abbrev pub sum_is_low : DocsisPie → Bool
sum_is_low pie = ltb pie.accumulated.0 low

-- rule 12: early whatever u is
abbrev pub sum_is_high : DocsisPie → Bool
sum_is_high pie = eqb pie.accumulated.0 high

-- rule 13
abbrev pub early : (scaled u : ℕ) → Bool
early scaled u = ltb u scaled

-- rules 9 to 14, after rule 8: the first that holds decides
unfoldable pub drawn : DocsisPie → (target bytes scaled u : ℕ) → Verdict
drawn pie target bytes scaled u =
    cond (lightly_loaded pie target) Enqueued
    (cond (is_small bytes) Enqueued
    (cond (sum_is_low pie) Enqueued
    (cond (sum_is_high pie) DroppedEarly
    (cond (early scaled u) DroppedEarly
    Enqueued))))

-- rule 15, after an early drop: accumulated becomes 0, and a quiescent flow active with a full allowance
abbrev pub after_drop : DocsisPie → DocsisPie
after_drop pie =
    let spent = with_accumulated pie none in
    cond (is_quiescent pie) (with_allowance (with_activity spent active) full_allowance) spent

-- rules 9 to 15, after rule 8
unfoldable pub drawn_with : DocsisPie → (target bytes scaled u : ℕ) → Decided
drawn_with pie target bytes scaled u =
    let v = drawn pie target bytes scaled u in
    record { verdict = v; pie = cond (is_early v) (after_drop pie) pie }

abbrev pub enqueued_with : DocsisPie → Decided
enqueued_with pie = record { verdict = Enqueued; pie = pie }

-- rules 3 to 15, with this many bytes queued
unfoldable pub decided : DocsisPie → (target buffer bytes size u : ℕ) → Decided
decided pie target buffer bytes size u =
    let scaled = scaled_of pie.prob.0 size in
    cond (in_allowance pie) (enqueued_with pie)
    (cond (stays_inactive pie buffer bytes) (enqueued_with (cleared pie))
    (drawn_with (summed (no_longer_inactive (cleared pie)) scaled) target bytes scaled u))
