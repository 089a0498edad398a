-- The ranges of a record's numbers, and that arrival rules 3 to 15 and tick rules 1 to 12 keep them.
use mathlib.Core.Path.{◌≡◌, refl, sym, ◌∙◌, ap}
use mathlib.Core.Bool.{true, false, ◌&&◌, false≢true}
use Prim.Native.Nat.{ℕ, ◌-◌, ◌*◌, ◌≤◌}
use native.Mathlib.Omega.{arith}
use borrow.Author.Tests.{eq-eqb, eqb-true, ltb-false, ne_eqb}
use lib.Dec.{eqb, ltb}
use Rattle.units.specs.Kinds.{none}
use Rattle.laws.proofs.Choice.{at-cond, either}
use Rattle.laws.proofs.Tests.{and_left, and_right}
use Rattle.pie.specs.Constants.{longest}
use Rattle.pie.specs.Verdicts.{is_early}
use Rattle.docsis_pie.specs.Constants.{full_allowance, high, most_prob, period, quiescent}
use Rattle.docsis_pie.specs.Delay.{delay_of}
use Rattle.docsis_pie.specs.DropDecision.{after_drop, cleared, decided, drawn, drawn_with, in_allowance, is_inactive, is_quiescent}
use Rattle.docsis_pie.specs.DropDecision.{scaled_of, stays_inactive, summed, with_accumulated, with_activity, no_longer_inactive}
use Rattle.docsis_pie.specs.Probability.{next_prob}
use Rattle.docsis_pie.specs.Update.{is_quiet, next_allowance, updated}
use Rattle.docsis_pie.specs.declared.Decided.{Decided}
use Rattle.docsis_pie.specs.declared.DocsisPie.{DocsisPie}
use Rattle.docsis_pie.proofs.NeverEarly.{zero-enqueues}
use Rattle.docsis_pie.proofs.Phases.{PhaseFits, no-reset, no-reset-above-0, phase-after-fits}
use Rattle.docsis_pie.proofs.Ranges.{at_most, delay-le, next-prob-le}

pub record PieFits (pie : DocsisPie) : Type 0 where
  pub prob-high : pie.prob.0 ≤ most_prob
  pub accumulated-high : pie.accumulated.0 ≤ high
  pub old-high : pie.old.0 ≤ longest
  pub allowance-high : pie.allowance.0 ≤ full_allowance
  pub phase : PhaseFits pie.prob.0 pie.allowance.0 pie.phase

-- ── an arrival ──

pub spent_fits : (pie : DocsisPie) (accumulated : ℕ) → accumulated ≤ high → PieFits pie → PieFits (with_accumulated pie accumulated)
spent_fits pie accumulated h f =
    record {
      prob-high = f.prob-high;
      accumulated-high = h;
      old-high = f.old-high;
      allowance-high = f.allowance-high;
      phase = f.phase;
    }

cleared-fits : (pie : DocsisPie) → PieFits pie → PieFits (cleared pie)
cleared-fits pie f = either PieFits (eqb pie.prob.0 none) (with_accumulated pie none) pie (spent_fits pie none (omega arith) f) f

not-quiescent : (n : ℕ) → eqb n 0 ≡ true → eqb n quiescent ≡ false
not-quiescent n e = rw (eqb-true n 0 e)

no_longer_inactive-fits : (pie : DocsisPie) → eqb pie.allowance.0 0 ≡ true → PieFits pie → PieFits (no_longer_inactive pie)
no_longer_inactive-fits pie none f =
    at-cond PieFits (is_inactive pie)
    (λ inactive.
    record {
      prob-high = f.prob-high;
      accumulated-high = f.accumulated-high;
      old-high = f.old-high;
      allowance-high = f.allowance-high;
      phase =
          record {
            reset-high = f.phase.reset-high;
            activity-high = omega arith;
            allowed = rw none;
            resetting = rw (no-reset _ _ pie.phase f.phase (not-quiescent pie.phase.activity.0 inactive));
          };
    })
    (λ started. f)

-- an early drop, with a probability above 0
dropped-fits : (pie : DocsisPie) → eqb pie.prob.0 none ≡ false → PieFits pie → PieFits (after_drop pie)
dropped-fits pie some f =
    at-cond PieFits (is_quiescent pie)
    (λ is.
    record {
      prob-high = f.prob-high;
      accumulated-high = omega arith;
      old-high = f.old-high;
      allowance-high = omega arith;
      phase =
          record {
            reset-high = f.phase.reset-high;
            activity-high = omega arith;
            allowed = refl;
            resetting = rw (no-reset-above-0 _ _ pie.phase f.phase some);
          };
    })
    (λ no. spent_fits pie none (omega arith) f)

no_longer_inactive-prob : (pie : DocsisPie) → (no_longer_inactive pie).prob.0 ≡ pie.prob.0
no_longer_inactive-prob pie = either (λ q. q.prob.0 ≡ pie.prob.0) (is_inactive pie) (with_activity pie quiescent) pie refl refl

cleared-prob : (pie : DocsisPie) → (cleared pie).prob.0 ≡ pie.prob.0
cleared-prob pie = either (λ q. q.prob.0 ≡ pie.prob.0) (eqb pie.prob.0 none) (with_accumulated pie none) pie refl refl

cleared-allowance : (pie : DocsisPie) → (cleared pie).allowance.0 ≡ pie.allowance.0
cleared-allowance pie =
    either (λ q. q.allowance.0 ≡ pie.allowance.0) (eqb pie.prob.0 none) (with_accumulated pie none) pie refl refl

-- a packet that is dropped early finds a probability above 0
pub early-above-0 : (pie : DocsisPie) (target bytes size u : ℕ) →
    let scaled = scaled_of pie.prob.0 size in
    is_early (drawn (summed (no_longer_inactive (cleared pie)) scaled) target bytes scaled u) ≡ true → eqb pie.prob.0 none ≡ false
early-above-0 pie target bytes size u e =
    ne_eqb pie.prob.0 none (λ z. absurd (false≢true (sym (ap is_early (zero-enqueues pie target bytes size u z)) ∙ e)))

pub decided-fits : (pie : DocsisPie) (target buffer bytes size u : ℕ) → PieFits pie → PieFits (decided pie target buffer bytes size u).pie
unfolding decided drawn_with
decided-fits pie target buffer bytes size u f =
    at-cond P (in_allowance pie)
    (λ runs. f)
    (λ none.
    at-cond P (stays_inactive pie buffer bytes)
    (λ stays. cleared-fits pie f)
    (λ goes_on.
    at-cond PieFits (is_early (drawn sum target bytes scaled u))
    (λ early. dropped-fits sum (rw (no_longer_inactive-prob (cleared pie), cleared-prob pie) (early-above-0 pie target bytes size u early)) (sum_fits none))
    (λ passed. sum_fits none)))
  where
    P : Decided → Type 0
    P d = PieFits d.pie

    scaled : ℕ
    scaled = scaled_of pie.prob.0 size

    sum : DocsisPie
    sum = summed (no_longer_inactive (cleared pie)) scaled

    sum_fits : in_allowance pie ≡ false → PieFits sum
    sum_fits none =
        let spent : pie.allowance.0 ≡ 0 = omega (arith, ltb-false 0 pie.allowance.0 none) in
        spent_fits (no_longer_inactive (cleared pie)) _ (at_most _ high)
        (no_longer_inactive-fits (cleared pie) (eq-eqb _ 0 (cleared-allowance pie ∙ spent)) (cleared-fits pie f))

-- ── a tick ──

stays-spent : (allowance : ℕ) → eqb allowance 0 ≡ true → eqb (next_allowance allowance) 0 ≡ true
stays-spent allowance e = eq-eqb (allowance - period) 0 (omega (arith, eqb-true allowance 0 e))

calm : (p allowance delay old target : ℕ) → is_quiet p allowance delay old target ≡ true → (eqb p none ≡ true) × (eqb allowance 0 ≡ true)
calm p allowance delay old target e =
    let a = eqb p none in
    let b = eqb allowance 0 in
    let c = ltb (2 * delay) target in
    let both = and_left (a && b) c (and_left (a && b && c) (ltb (2 * old) target) e) in
    (and_left a b both, and_right a b both)

pub updated-fits : (pie : DocsisPie) (target bytes credits peak sustained : ℕ) → PieFits pie →
    PieFits (updated pie target bytes credits peak sustained)
unfolding updated
updated-fits pie target bytes credits peak sustained f =
    let old = pie.old.0 in
    let delay = delay_of bytes credits peak sustained in
    let p = next_prob pie.prob.0 pie.allowance.0 delay old target in
    let allowance = next_allowance pie.allowance.0 in
    record {
      prob-high = next-prob-le pie.prob.0 pie.allowance.0 delay old target;
      accumulated-high = f.accumulated-high;
      old-high = delay-le bytes credits peak sustained;
      allowance-high = omega arith;
      phase =
          phase-after-fits (is_quiet p allowance delay old target) _ _ p allowance pie.phase f.phase
          (calm p allowance delay old target)
          (stays-spent pie.allowance.0);
    }
