-- `put_beginning` meets its contract.
use Rattle.call_log.proofs.Stores.{beginning}
use Rattle.call_log.proofs.writing.put_beginning.Goals as goal

pub returns : goal.returns
returns c =
    let s = c in
    beginning s.args.bytes.now s.args.note.now s.args.h c.put_header.ensures c.put_note.ensures c.put_trailer.ensures
