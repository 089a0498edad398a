-- `put_header` meets its contract.
use native.Mathlib.Omega.{arith}
use Rattle.log_codec.proofs.Stores.{settings}
use Rattle.log_codec.proofs.headers.put_header.Goals as goal

pub returns : goal.returns
returns c =
    let s = c.args in
    settings s.bytes.now s.at s.h (omega arith) c.put8.ensures c.put4.ensures c.put4-2.ensures c.put8-2.ensures c.put8-3.ensures
