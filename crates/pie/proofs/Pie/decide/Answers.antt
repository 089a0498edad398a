-- `Pie::decide`: past rule 5 the verdict says what is accumulated.
use mathlib.Core.Path.{◌≡◌, refl, ap, ◌∙◌}
use mathlib.Core.Bool.{Bool, false, cond, ◌||◌}
use Prim.Native.Nat.{ℕ}
use Rattle.units.specs.Kinds.{none, prob}
use Rattle.pie.specs.DropDecision.{accumulated_after, drawn, early, early_verdict, marks, spared}
use Rattle.pie.specs.DropDecision.{sum_is_high, sum_is_low, sum_of}
use Rattle.pie.specs.Verdicts.{is_early}
use Rattle.pie.specs.declared.Pie.{Pie}
use Rattle.pie.specs.declared.Verdict.{Verdict}
use Rattle.pie.specs.declared.Verdict.TheVariants.{DroppedEarly, Enqueued, Marked}
use borrow.Author.Rules.{rules}
use Rattle.laws.proofs.Choice.{either}
use Rattle.pie.proofs.Pie.decide.Goals as goal

-- past rule 5 every verdict but an early one leaves the sum
drawn-sum : (pie : Pie) (target bytes : ℕ) (ecn : Bool) (u : ℕ) → spared pie target bytes ≡ false →
    cond (is_early (drawn pie ecn u)) none (sum_of pie) ≡ accumulated_after pie target bytes (drawn pie ecn u)
unfolding drawn accumulated_after
drawn-sum pie target bytes ecn u e =
    either P (sum_is_low (sum_of pie)) Enqueued _ kept
    (either P (sum_is_high (sum_of pie) || early pie.prob.0 u) (early_verdict pie.prob.0 ecn) Enqueued
    (either P (marks pie.prob.0 ecn) Marked DroppedEarly refl refl)
    kept)
  where
    P : Verdict → Type 0
    P v = cond (is_early v) none (sum_of pie) ≡ accumulated_after pie target bytes v

    kept : P Enqueued
    kept = rw e

pub returns-clause-accumulated_value : goal.returns-clause-accumulated_value
returns-clause-accumulated_value c =
    let a = c.before.before.before.before.before.args in
    let none-spared : spared a.self a.target.0 a.bytes.0 ≡ false = search rules in
    c.draw.ensures.accumulated_value
    ∙ rw c.draw.ensures.verdict_value (ap prob (drawn-sum a.self a.target.0 a.bytes.0 a.ecn a.u none-spared))
