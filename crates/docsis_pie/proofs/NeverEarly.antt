-- Where p is 0 no packet is dropped early: rule 4 clears what is accumulated, rule 7 adds 0, and rule 11 enqueues.
use mathlib.Core.Path.{◌≡◌, refl}
use mathlib.Core.Bool.{true}
use Prim.Native.Nat.{ℕ, ◌+◌, min}
use native.Mathlib.Omega.{arith}
use borrow.Author.Tests.{eq-eqb, lt-ltb}
use Rattle.units.specs.Kinds.{none}
use Rattle.laws.proofs.Choice.{either}
use Rattle.pie.specs.declared.Verdict.{Verdict}
use Rattle.pie.specs.declared.Verdict.TheVariants.{Enqueued}
use Rattle.docsis_pie.specs.Constants.{high, low, quiescent}
use Rattle.docsis_pie.specs.DropDecision.{cleared, drawn, is_inactive, is_small, lightly_loaded, scaled_of, sum_is_low, summed, with_activity, no_longer_inactive}
use Rattle.docsis_pie.specs.declared.DocsisPie.{DocsisPie}

pub no-longer-inactive-accumulated : (pie : DocsisPie) → (no_longer_inactive pie).accumulated.0 ≡ pie.accumulated.0
no-longer-inactive-accumulated pie =
    either (λ q. q.accumulated.0 ≡ pie.accumulated.0) (is_inactive pie) (with_activity pie quiescent) pie refl refl

cleared-zero : (pie : DocsisPie) → pie.prob.0 ≡ none → (cleared pie).accumulated.0 ≡ 0
cleared-zero pie e = rw (eq-eqb pie.prob.0 none e)

pub scaled-zero : (p size : ℕ) → p ≡ none → scaled_of p size ≡ 0
unfolding scaled_of
scaled-zero p size e = rw e (omega arith)

pub low-enqueues : (pie : DocsisPie) (target bytes scaled u : ℕ) → sum_is_low pie ≡ true → drawn pie target bytes scaled u ≡ Enqueued
unfolding drawn
low-enqueues pie target bytes scaled u e =
    either P (lightly_loaded pie target) Enqueued _ refl
    (either P (is_small bytes) Enqueued _ refl
    (rw e))
  where
    P : Verdict → Type 0
    P v = v ≡ Enqueued

pub zero-enqueues : (pie : DocsisPie) (target bytes size u : ℕ) → pie.prob.0 ≡ none →
    let scaled = scaled_of pie.prob.0 size in drawn (summed (no_longer_inactive (cleared pie)) scaled) target bytes scaled u ≡ Enqueued
zero-enqueues pie target bytes size u e =
    let scaled = scaled_of pie.prob.0 size in
    let sum = (no_longer_inactive (cleared pie)).accumulated.0 + scaled in
    low-enqueues (summed (no_longer_inactive (cleared pie)) scaled) target bytes scaled u
    (lt-ltb (min sum high) low (omega (
      arith,
      no-longer-inactive-accumulated (cleared pie),
      cleared-zero pie e,
      scaled-zero pie.prob.0 size e,
    )))
