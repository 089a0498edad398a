-- What activity, reset time, probability and allowance keep together, and that rules 10 and 11 keep it.
use mathlib.Core.Path.{◌≡◌, refl}
use mathlib.Core.Bool.{Bool, true, false, cond, ◌&&◌, ◌||◌, or-true, true≢false}
use Prim.Native.Nat.{ℕ, ◌+◌, ◌≤◌}
use native.Mathlib.Omega.{arith}
use borrow.Author.Tests.{eqb-true, ltb-false}
use lib.Dec.{eqb, ltb}
use Rattle.units.specs.Kinds.{none}
use Rattle.laws.proofs.Choice.{at-cond}
use Rattle.docsis_pie.specs.Constants.{active, period, quiescent, reset_timeout}
use Rattle.docsis_pie.specs.Update.{phase_after, waited}
use Rattle.docsis_pie.specs.declared.Phase.{Phase}

pub record PhaseFits (p allowance : ℕ) (ph : Phase) : Type 0 where
  pub reset-high : ph.reset.0 ≤ reset_timeout
  pub activity-high : ph.activity.0 ≤ active
  -- an allowance runs in an active flow alone
  pub allowed : eqb allowance 0 || eqb ph.activity.0 active ≡ true
  -- a reset time runs in a quiescent flow with probability 0 alone
  pub resetting : eqb ph.reset.0 0 || (eqb ph.activity.0 quiescent && eqb p none) ≡ true

-- ── what the two tests say ──

first-without-second : (a b : Bool) → a || b ≡ true → b ≡ false → a ≡ true
first-without-second true b e n = refl
first-without-second false true e n = absurd (true≢false n)
first-without-second false false e n = e

and-without-left : (b c : Bool) → b ≡ false → b && c ≡ false
and-without-left true c n = absurd (true≢false n)
and-without-left false c n = refl

and-without-right : (b c : Bool) → c ≡ false → b && c ≡ false
and-without-right true c n = n
and-without-right false c n = refl

module _ (p allowance : ℕ) (ph : Phase) (f : PhaseFits p allowance ph) where
  pub no-allowance : eqb ph.activity.0 active ≡ false → eqb allowance 0 ≡ true
  no-allowance n = first-without-second _ _ f.allowed n

  pub no-reset : eqb ph.activity.0 quiescent ≡ false → eqb ph.reset.0 0 ≡ true
  no-reset n = first-without-second _ _ f.resetting (and-without-left _ (eqb p none) n)

  pub no-reset-above-0 : eqb p none ≡ false → eqb ph.reset.0 0 ≡ true
  no-reset-above-0 n = first-without-second _ _ f.resetting (and-without-right (eqb ph.activity.0 quiescent) _ n)

-- ── rules 10 and 11 ──

-- a flow without allowance that waits
waited-fits : (quiet : Bool) (p allowance reset : ℕ) → eqb allowance 0 ≡ true → (quiet ≡ true → eqb p none ≡ true) →
    PhaseFits p allowance (waited (cond quiet (reset + period) 0))
waited-fits quiet p allowance reset spent zero =
    at-cond (PhaseFits p allowance) (ltb reset_timeout (cond quiet (reset + period) 0))
    (λ over. record { reset-high = omega arith; activity-high = omega arith; allowed = rw spent; resetting = refl })
    (λ within.
    record {
      reset-high = ltb-false _ _ within;
      activity-high = omega arith;
      allowed = rw spent;
      resetting =
          at-cond (λ n. eqb n 0 || (eqb quiescent quiescent && eqb p none) ≡ true) quiet
          (λ e. rw (zero e, or-true))
          (λ e. refl);
    })

-- what the tick makes of probability and allowance: both 0 where it is quiet, and no allowance where there was none
pub phase-after-fits : (quiet : Bool) (p allowance p' allowance' : ℕ) (ph : Phase) → PhaseFits p allowance ph →
    (quiet ≡ true → (eqb p' none ≡ true) × (eqb allowance' 0 ≡ true)) → (eqb allowance 0 ≡ true → eqb allowance' 0 ≡ true) →
    PhaseFits p' allowance' (phase_after quiet ph)
unfolding phase_after
phase-after-fits quiet p allowance p' allowance' ph f calm stays =
    at-cond P (eqb ph.activity.0 active)
    (λ is.
    at-cond P quiet
    (λ q. record { reset-high = omega arith; activity-high = omega arith; allowed = rw (calm q).1; resetting = refl })
    (λ q.
    record {
      reset-high = f.reset-high;
      activity-high = f.activity-high;
      allowed = rw (is, or-true);
      resetting = rw (no-reset p allowance ph f (not-quiescent ph.activity.0 is));
    }))
    (λ no.
    at-cond P (eqb ph.activity.0 quiescent)
    (λ is. waited-fits quiet p' allowance' ph.reset.0 (stays (no-allowance p allowance ph f no)) (λ q. (calm q).0))
    (λ other.
    record {
      reset-high = f.reset-high;
      activity-high = f.activity-high;
      allowed = rw (stays (no-allowance p allowance ph f no));
      resetting = rw (no-reset p allowance ph f other);
    }))
  where
    P : Phase → Type 0
    P = PhaseFits p' allowance'

    not-quiescent : (n : ℕ) → eqb n active ≡ true → eqb n quiescent ≡ false
    not-quiescent n e = rw (eqb-true n active e)
