-- `put`: a part that is written over is a run of stores.
use Prim.Native.Nat.{◌+◌, ◌-◌}
use native.Mathlib.Omega.{arith}
use Rattle.log_codec.proofs.Stores.{part-stored}
use Rattle.log_codec.proofs.numbers.put.Goals as goal

pub returns : goal.returns
returns g c =
    let s = c.args in
    part-stored s.bytes.now s.own s.at (s.at + g.row.N - s.at) (omega arith) c.copy_from_slice.ensures.len c.copy_from_slice.ensures.after
