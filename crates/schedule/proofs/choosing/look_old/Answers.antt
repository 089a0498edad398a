use mathlib.Core.Path.{◌≡◌, refl, sym, ◌∙◌}
use mathlib.Core.Bool.{true, false}
use native.Mathlib.Omega.{arith}
use borrow.Author.Tests.{ltb-true, eq-eqb, ne_eqb}
use lib.Dec.{ltb}
use lib.ListN.{get_or, length-set}
use Rattle.schedule.specs.Ring.{schedule_of}
use Rattle.schedule.specs.TwoLists.{zero_deficit}
use Rattle.schedule.proofs.Facts.{facts, lists-fit}
use Rattle.schedule.proofs.Flows.{flows-first}
use Rattle.schedule.proofs.Looks.{last_written}
use Rattle.schedule.proofs.Moves.{left_lists, rotated, rotated_lists}
use Rattle.schedule.proofs.Ring.{place-lt}
use Rattle.schedule.proofs.choosing.look_old.Goals as goal

pub overflow_add-next : goal.overflow_add-next
overflow_add-next c = let f = facts c.args.lists.now c.requires.lists_value.0 in omega (arith, f.first-lt)

pub overflow_add-end : goal.overflow_add-end
overflow_add-end c =
    let f = facts c.args.lists.now c.requires.lists_value.0 in
    omega (arith, f.first-lt, f.listed_le)

pub overflow_add-deficits : goal.overflow_add-deficits
overflow_add-deficits c =
    let d = get_or c.args.deficits.now c.args.flow 0 in
    omega (arith, ltb-true d zero_deficit (sym c.is_negative-negative.ensures ∙ c.if-negative.true))

pub returns-then-negative-clause-by_index : goal.returns-then-negative-clause-by_index
returns-then-negative-clause-by_index c =
    let a = c.args in
    let negative : ltb (get_or a.deficits.now a.flow 0) zero_deficit ≡ true = sym c.is_negative-negative.ensures ∙ c.if-negative.true in
    λ rest again.
    last_written a.counts.now (schedule_of a.lists.now a.order.now a.deficits.now) a.flow rest again c.requires.listed_value.1 negative

pub returns-then-negative-clause-places : goal.returns-then-negative-clause-places
returns-then-negative-clause-places c =
    let a = c.args in
    let l = a.lists.now in
    let f = facts l c.requires.lists_value.0 in (
      (
        lists-fit (rotated_lists l) (place-lt l.first 1) f.old-le f.listed_le,
        rotated a.order.now l.first l.listed a.flow f.first-lt c.requires.lists_value.2 f.listed_le c.requires.lists_value.3
            c.requires.listed_value.0,
      ),
      length-set a.order.now _ _,
    )

pub returns-then-empty-clause-by_index : goal.returns-then-empty-clause-by_index
returns-then-empty-clause-by_index c =
    let a = c.args in
    let high : ltb (get_or a.deficits.now a.flow 0) zero_deficit ≡ false = sym c.is_negative-negative.ensures ∙ c.if-negative.false in
    λ rest again. simp (high, eq-eqb _ _ c.if-empty.true) refl

pub returns-then-empty-clause-places : goal.returns-then-empty-clause-places
returns-then-empty-clause-places c =
    let a = c.args in
    let l = a.lists.now in
    let f = facts l c.requires.lists_value.0 in (
      (
        lists-fit (left_lists l) (place-lt l.first 1) (omega (arith, f.old-le)) (omega (arith, f.listed_le)),
        (flows-first a.order.now l.first l.listed f.first-lt c.requires.lists_value.2 c.requires.listed_value.0).1,
      ),
      refl,
    )

pub returns-clause-by_index : goal.returns-clause-by_index
returns-clause-by_index c =
    let a = c.args in
    let high : ltb (get_or a.deficits.now a.flow 0) zero_deficit ≡ false = sym c.is_negative-negative.ensures ∙ c.if-negative.false in
    λ rest again. simp (high, ne_eqb _ _ c.if-empty.false) refl
