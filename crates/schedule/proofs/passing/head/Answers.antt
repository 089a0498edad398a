-- `head`: the place of either head is in the ring, and a flow stands there.
use borrow.Author.Tests.{lt-ltb, le-ltb}
use mathlib.Core.Path.{refl}
use native.Mathlib.Omega.{arith}
use Rattle.schedule.proofs.Facts.{facts}
use Rattle.schedule.proofs.Flows.{flow-at, flows-first}
use Rattle.schedule.proofs.passing.head.Goals as goal

pub overflow_add-at : goal.overflow_add-at
overflow_add-at c =
    let f = facts c.args.lists c.requires.0.0 in omega (arith, f.first-lt, f.old-le, f.listed_le)

pub returns-then-new : goal.returns-then-new
returns-then-new c =
    let l = c.args.lists in
    let e = c.if-new.true in
    rw (lt-ltb l.old l.listed e) (refl, flow-at c.args.order.now l.first l.old l.listed e c.requires.0.1)

pub returns : goal.returns
returns c =
    let l = c.args.lists in
    let f = facts l c.requires.0.0 in
    rw (le-ltb l.old l.listed c.if-new.false) (refl, (flows-first c.args.order.now l.first l.listed f.first-lt c.requires.1 c.requires.0.1).0)
