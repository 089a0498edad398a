-- `ticks_until_none`: the ticks so far and those still to be counted are all.
use native.Mathlib.Omega.{arith}
use Rattle.recovery.proofs.Counting.{again, over-at, spent}
use Rattle.recovery.proofs.ticks_until_none.Goals as goal

pub returns-then-b-eq0-clause-value : goal.returns-then-b-eq0-clause-value
returns-then-b-eq0-clause-value c =
    let l = c.loop-ticks in over-at l.b _ l.ticks _ (omega arith) l.invariant.1

pub returns-clause-value : goal.returns-clause-value
returns-clause-value c = let l = c.loop-ticks in omega (arith, spent _ l.b l.ticks _ (omega arith) l.invariant.1)

pub loop-ticks-preserved : goal.loop-ticks-preserved
loop-ticks-preserved c =
    let l = c.loop-ticks in
    let e = c.most_left-b.ensures in
    (e.upper_bound, again _ l.b _ l.ticks _ (omega arith) (λ z. omega (arith, z)) e.value l.invariant.1)
