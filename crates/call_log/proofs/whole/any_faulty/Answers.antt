-- `any_faulty` meets its contract.
use Prim.Native.Nat.{◌+◌, ◌*◌, ◌-◌}
use native.Mathlib.Omega.{arith}
use Rattle.call_log.proofs.Shape.{none_yet, some-faulty}
use Rattle.call_log.proofs.whole.any_faulty.Goals as goal

pub returns-then-fault : goal.returns-then-fault
returns-then-fault c =
    let k = c.loop-i in
    let s = c.args in
    some-faulty s.log.now (s.offset + 40 * k.i) (s.count - (k.i + 1)) (s.count - k.i) (omega arith) k.invariant c.get.ensures c.faulty-fault.ensures c.if-fault.true

pub loop-i-preserved : goal.loop-i-preserved
loop-i-preserved c =
    let k = c.loop-i in
    let s = c.args in
    none_yet s.log.now (s.offset + 40 * k.i) (s.count - (k.i + 1)) (s.count - k.i) (omega arith) k.invariant c.get.ensures c.faulty-fault.ensures c.if-fault.false (omega arith)
