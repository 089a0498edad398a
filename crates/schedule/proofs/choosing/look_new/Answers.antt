use mathlib.Core.Path.{◌≡◌, refl, sym, ◌∙◌}
use mathlib.Core.Bool.{true, false}
use native.Mathlib.Omega.{arith}
use borrow.Author.Tests.{ltb-true, eq-eqb, ne_eqb}
use lib.Dec.{ltb}
use lib.ListN.{get_or}
use Rattle.schedule.specs.TwoLists.{zero_deficit}
use Rattle.schedule.proofs.Facts.{facts}
use Rattle.schedule.proofs.choosing.look_new.Goals as goal

pub overflow_add-deficits : goal.overflow_add-deficits
overflow_add-deficits c =
    let d = get_or c.args.deficits.now c.args.flow 0 in
    omega (arith, ltb-true d zero_deficit (sym c.is_negative-negative.ensures ∙ c.if-negative.true))

pub overflow_add-next : goal.overflow_add-next
overflow_add-next c = let f = facts c.args.lists.now c.requires.0 in omega (arith, c.requires.1, f.listed_le)

pub returns-then-negative-clause-by_index : goal.returns-then-negative-clause-by_index
returns-then-negative-clause-by_index c =
    let a = c.args in
    let negative : ltb (get_or a.deficits.now a.flow 0) zero_deficit ≡ true = sym c.is_negative-negative.ensures ∙ c.if-negative.true in
    λ order rest old again. simp negative refl

pub returns-then-empty-clause-by_index : goal.returns-then-empty-clause-by_index
returns-then-empty-clause-by_index c =
    let a = c.args in
    let high : ltb (get_or a.deficits.now a.flow 0) zero_deficit ≡ false = sym c.is_negative-negative.ensures ∙ c.if-negative.false in
    λ order rest old again. simp (high, eq-eqb _ _ c.if-empty.true) refl

pub returns-clause-by_index : goal.returns-clause-by_index
returns-clause-by_index c =
    let a = c.args in
    let high : ltb (get_or a.deficits.now a.flow 0) zero_deficit ≡ false = sym c.is_negative-negative.ensures ∙ c.if-negative.false in
    λ order rest old again. simp (high, ne_eqb _ _ c.if-empty.false) refl
