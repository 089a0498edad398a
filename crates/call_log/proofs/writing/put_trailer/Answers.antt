-- `put_trailer` meets its contract.
use Rattle.call_log.proofs.Stores.{trailer}
use Rattle.call_log.proofs.writing.put_trailer.Goals as goal

pub returns : goal.returns
returns c =
    let s = c in
    trailer s.args.bytes.now s.args.at s.args.offset s.args.count
    c.put4.ensures c.put4-2.ensures c.put4-3.ensures c.put4-4.ensures
