-- `put` meets its contract.
use Rattle.log_codec.proofs.Stores.{whole}
use Rattle.log_codec.proofs.records.put.Goals as goal

pub returns : goal.returns
returns c =
    let s = c.args in whole s.bytes.now s.at s.r c.put_head.ensures c.put_tail.ensures
