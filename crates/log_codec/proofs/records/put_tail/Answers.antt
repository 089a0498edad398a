-- `put_tail` meets its contract.
use Rattle.log_codec.proofs.Stores.{tail}
use Rattle.log_codec.proofs.records.put_tail.Goals as goal

pub returns : goal.returns
returns c =
    let s = c.args in tail s.bytes.now s.at s.r c.put4.ensures c.put4-2.ensures c.put4-3.ensures c.put4-4.ensures c.put8.ensures
