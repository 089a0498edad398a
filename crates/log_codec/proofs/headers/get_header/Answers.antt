-- `get_header` meets its contract.
use mathlib.Core.Path.{sym}
use Prim.Native.Nat.{◌+◌}
use native.Mathlib.Omega.{arith}
use Rattle.log_codec.proofs.Windows.{byte, settings}
use Rattle.log_codec.proofs.headers.get_header.Goals as goal

pub returns : goal.returns
returns c =
    let s = c.args in
    settings s.bytes.now s.at c.requires c.get8-target.ensures c.get4-buffer.ensures c.get4-slots.ensures c.get8-clock.ensures
    (sym (byte s.bytes.now (s.at + 24) (omega arith))) (omega (arith, c.type_inv.bytes (s.at + 24))) c.get8-unused.ensures
