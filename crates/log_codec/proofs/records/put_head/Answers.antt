-- `put_head` meets its contract.
use native.Mathlib.Omega.{arith}
use Prim.Native.Nat.{◌+◌}
use Rattle.log_codec.proofs.Stores.{byte, head}
use Rattle.log_codec.proofs.records.put_head.Goals as goal

pub returns : goal.returns
returns c =
    let s = c.args in
    let l = s.bytes.now in
    head l s.at s.r (byte l s.at s.r.kind (omega arith)) (byte _ (s.at + 1) s.r.ecn (omega arith)) c.put2.ensures c.put4.ensures c.put8.ensures
