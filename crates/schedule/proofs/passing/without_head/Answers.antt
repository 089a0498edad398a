-- `without_head`: with no new list the old one has every flow that is listed.
use borrow.Author.Tests.{lt-ltb, le-ltb}
use mathlib.Core.Path.{refl}
use native.Mathlib.Omega.{arith}
use Rattle.schedule.proofs.Facts.{facts}
use Rattle.schedule.proofs.passing.without_head.Goals as goal

pub overflow_add-result : goal.overflow_add-result
overflow_add-result c =
    let s = c.before in
    let f = facts s.args.lists s.requires.0 in
    omega (arith, f.old-le, f.listed_le)

pub returns-then-new : goal.returns-then-new
returns-then-new c = rw (lt-ltb _ _ c.if-new.true) refl

pub overflow_add-result-2 : goal.overflow_add-result-2
overflow_add-result-2 c = let f = facts c.before.args.lists c.before.requires.0 in omega (arith, f.first-lt)

pub overflow_sub-result : goal.overflow_sub-result
overflow_sub-result c =
    let s = c.before in
    let l = s.args.lists in
    omega (arith, c.if-new.false, s.requires.1)

pub returns : goal.returns
returns c = rw (le-ltb _ _ c.if-new.false) refl
