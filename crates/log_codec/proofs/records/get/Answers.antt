-- `get` meets its contract.
use mathlib.Core.Path.{refl}
use Rattle.log_codec.proofs.Windows.{whole}
use Rattle.log_codec.proofs.records.get.Goals as goal

pub returns : goal.returns
returns c =
    let s = c.args in
    whole s.bytes.now s.at c.requires refl refl c.get2-unused.ensures c.get4-handle.ensures c.get8-clock.ensures
    c.get4-size.ensures c.get4-u.ensures c.get4-verdict.ensures c.get4-after.ensures c.get8-prob.ensures
