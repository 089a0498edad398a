use mathlib.Core.Path.{refl}
use native.Mathlib.Omega.{arith}
use Rattle.schedule.specs.Ring.{old_list, schedule_of}
use Rattle.schedule.proofs.Facts.{facts, lists-fit}
use Rattle.schedule.proofs.Flows.{flow-at, flows-first}
use Rattle.schedule.proofs.Looks.{look-new, look_none, look-old, others_of, rest_of}
use Rattle.schedule.proofs.Moves.{above_zero, same-flows}
use Rattle.schedule.proofs.choosing.look.Goals as goal

pub overflow_add-at : goal.overflow_add-at
overflow_add-at c = let f = facts c.args.lists.now c.requires.0 in omega (arith, f.first-lt, f.old-le, f.listed_le)

pub look_new-requires : goal.look_new-requires
look_new-requires c =
    let l = c.args.lists.now in
    let some = c.if-new.true in
    (c.requires.0, some, flow-at c.args.order.now l.first l.old l.listed some c.requires.1)

pub returns-then-new-clause-s_after : goal.returns-then-new-clause-s_after
returns-then-new-clause-s_after c =
    let a = c.args in
    let o = schedule_of a.lists.now a.order.now a.deficits.now in
    rw (look-new o a.counts.now c.if-new.true) (c.look_new.ensures.by_index a.order.now (rest_of o) (old_list o))

pub returns-then-new-clause-places : goal.returns-then-new-clause-places
returns-then-new-clause-places c =
    let f = facts c.args.lists.now c.requires.0 in
    let k = c.look_new.ensures in (
      (
        lists-fit c.look_new.new.lists (omega (arith, k.places.0, f.first-lt)) (omega (arith, k.places.1, k.places.2)) (omega (arith, k.places.2, f.listed_le)),
        same-flows c.args.order.now k.places.0 k.places.2 c.requires.1,
      ),
      refl,
    )

pub returns-then-none-clause-s_after : goal.returns-then-none-clause-s_after
returns-then-none-clause-s_after c =
    let a = c.args in
    let none = c.if-none.true in
    let f = facts a.lists.now c.requires.0 in
    rw (look_none (schedule_of a.lists.now a.order.now a.deficits.now) a.counts.now (omega (arith, none, f.old-le)) none) (λ again. refl)

pub look_old-requires-clause-lists_value : goal.look_old-requires-clause-lists_value
look_old-requires-clause-lists_value c =
    let l = c.args.lists.now in
    let f = facts l c.requires.0 in
    let some = above_zero l.listed c.if-none.false in
    let low = (flows-first c.args.order.now l.first l.listed f.first-lt some c.requires.1).0 in
    (c.requires.0, omega (arith, c.if-new.false, f.old-le), some, low)

pub look_old-requires-clause-listed_value : goal.look_old-requires-clause-listed_value
look_old-requires-clause-listed_value c = (c.requires.1, refl)

pub returns-clause-s_after : goal.returns-clause-s_after
returns-clause-s_after c =
    let a = c.args in
    let l = a.lists.now in
    let f = facts l c.requires.0 in
    let o = schedule_of l a.order.now a.deficits.now in
    let some = above_zero l.listed c.if-none.false in
    rw (look-old o a.counts.now f.first-lt (omega (arith, c.if-new.false, f.old-le)) some) (c.look_old.ensures.by_index (others_of o))
