use mathlib.Core.Path.{◌≡◌}
use mathlib.Core.List.{[]}
use native.Mathlib.Omega.{arith}
use lib.ListN.{get_or}
use Rattle.schedule.specs.Ring.{place, ring_of, schedule_of, two_lists}
use Rattle.schedule.specs.TwoLists.{listed, occurs}
use Rattle.schedule.proofs.Facts.{facts}
use Rattle.schedule.proofs.Occurs.{is-in, is-out, occurs-at, occurs-both, occurs-first, occurs-more, occurs-other}
use Rattle.schedule.proofs.entering.is_listed.Goals as goal

pub loop-i-init : goal.loop-i-init
loop-i-init c = occurs-first c.args.order.now c.args.lists.first c.args.flow

pub overflow_add-here : goal.overflow_add-here
overflow_add-here c = let f = facts c.args.lists c.requires in omega (arith, f.first-lt, f.listed_le)

pub returns-then-here : goal.returns-then-here
returns-then-here c =
    let at = c.loop-i in
    let a = c.args in
    let both = occurs-both a.flow (schedule_of a.lists a.order.now []) (facts a.lists c.requires).old-le in
    is-in (listed a.flow (two_lists (schedule_of a.lists a.order.now [])))
    (omega (arith, both, occurs-at a.order.now a.lists.first at.i a.lists.listed a.flow (omega arith) c.if-here.true))

pub loop-i-preserved : goal.loop-i-preserved
loop-i-preserved c =
    let at = c.loop-i in
    let a = c.args in
    let other = occurs-other (get_or a.order.now (place a.lists.first at.i) 0) a.flow c.if-here.false in
    omega (arith, occurs-more a.order.now a.lists.first at.i a.flow, at.invariant, other)

pub returns : goal.returns
returns c =
    let a = c.args in
    let s = schedule_of a.lists a.order.now [] in
    let both = occurs-both a.flow s (facts a.lists c.requires).old-le in
    let whole : c.loop-i.i ≡ a.lists.listed = omega arith in
    let none : occurs a.flow (ring_of a.order.now a.lists.first a.lists.listed) ≡ 0 = rw whole at c.loop-i.invariant in
    is-out (listed a.flow (two_lists s)) (omega (arith, both, none))
