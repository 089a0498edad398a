-- `note`: the flow's count, which is small.
use Prim.Native.Nat.{◌≤◌}
use native.Mathlib.Omega.{arith}
use Rattle.fq_steps.proofs.entering.note.Goals as goal

pub overflow_cast-counts : goal.overflow_cast-counts
overflow_cast-counts c =
    let small : c.flow_at-f.result.count ≤ 65537 = rw c.flow_at-f.ensures c.requires.1 in omega (arith, small)
