use mathlib.Core.Path.{◌≡◌, refl, ◌∙◌}
use Prim.Native.Nat.{◌+◌, ◌<◌}
use native.Mathlib.Omega.{arith}
use lib.ListN.{get_or, get_or-replicate, length-set, replicate}
use Rattle.schedule.specs.Ring.{place, ring_of}
use Rattle.schedule.proofs.Facts.{facts}
use Rattle.schedule.proofs.Flows.{flows-broken, flows-more, flows-none}
use Rattle.schedule.proofs.Occurs.{occurs-le}
use Rattle.schedule.proofs.Ring.{length-ring}
use Rattle.schedule.proofs.Tallied.{tally-more, tally-none}
use Rattle.schedule.proofs.testing.count_listed.Goals as goal

pub loop-i-init : goal.loop-i-init
loop-i-init c =
    let first = c.args.lists.first in
    (refl, flows-none c.args.order.now first, tally-none c.args.order.now first (replicate 64 0) (λ j h. get_or-replicate 64 j 0 0 h))

pub overflow_add-x : goal.overflow_add-x
overflow_add-x c = let f = facts c.args.lists c.requires in omega (arith, f.first-lt, f.listed_le)

pub returns-then-x-ge64 : goal.returns-then-x-ge64
returns-then-x-ge64 c =
    let a = c.args in
    flows-broken a.order.now a.lists.first c.loop-i.i a.lists.listed (omega arith) c.if-x-ge64.true

pub overflow_add-times : goal.overflow_add-times
overflow_add-times c =
    let at = c.loop-i in
    let a = c.args in
    let f = facts a.lists c.requires in
    let x = get_or a.order.now (place a.lists.first at.i) 0 in
    let low : x < 64 = c.if-x-ge64.false in
    omega (
      arith,
      at.invariant.2 x low,
      occurs-le x (ring_of a.order.now a.lists.first at.i),
      length-ring a.order.now a.lists.first at.i,
      f.listed_le,
    )

pub loop-i-preserved : goal.loop-i-preserved
loop-i-preserved c =
    let at = c.loop-i in
    let a = c.args in
    let x = get_or a.order.now (place a.lists.first at.i) 0 in
    let low : x < 64 = c.if-x-ge64.false in (
      length-set at.times x (get_or at.times x 0 + 1) ∙ at.invariant.0,
      flows-more a.order.now a.lists.first at.i at.invariant.1 low,
      tally-more a.order.now at.times a.lists.first at.i at.invariant.0 low at.invariant.2,
    )

pub returns : goal.returns
returns c =
    let whole : c.loop-i.i ≡ c.args.lists.listed = omega arith in
    (rw whole at c.loop-i.invariant.1, rw whole at c.loop-i.invariant.2)
