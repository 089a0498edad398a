-- With probability 0 every packet is enqueued by rules 3 to 7, and nothing is accumulated.
use mathlib.Core.Path.{◌≡◌, refl}
use mathlib.Core.Bool.{Bool}
use Prim.Native.Nat.{ℕ, ◌<◌}
use native.Mathlib.Omega.{arith}
use borrow.Author.Tests.{le-ltb, lt-leb}
use Rattle.pie.specs.Constants.{most_accumulated}
use Rattle.pie.specs.DropDecision.{accumulated_after, drawn, drop_decision, spared, sum_is_low, sum_of}
use Rattle.pie.specs.declared.Pie.{Pie}
use Rattle.pie.specs.declared.Verdict.{Verdict}
use Rattle.pie.specs.declared.Verdict.TheVariants.{Enqueued}
use Rattle.laws.proofs.Choice.{at-cond}

pub never-early : (pie : Pie) (target bytes : ℕ) (ecn : Bool) (u : ℕ) → pie.prob.0 ≡ 0 → pie.accumulated.0 < most_accumulated →
    drop_decision pie target bytes ecn u ≡ Enqueued
unfolding drop_decision drawn
never-early pie target bytes ecn u none h =
    at-cond P (spared pie target bytes) (λ e. refl)
    (λ e.
    at-cond P (sum_is_low (sum_of pie)) (λ low. refl)
    (λ due. rw (lt-leb most_accumulated (sum_of pie) (omega arith), le-ltb u pie.prob.0 (omega arith))))
  where
    P : Verdict → Type 0
    P v = v ≡ Enqueued

pub nothing-accumulates : (pie : Pie) (target bytes : ℕ) → pie.prob.0 ≡ 0 →
    accumulated_after pie target bytes Enqueued ≡ pie.accumulated.0
unfolding accumulated_after
nothing-accumulates pie target bytes none =
    at-cond (λ n. n ≡ pie.accumulated.0) (spared pie target bytes) (λ e. refl) (λ e. omega arith)
