-- `begin` meets its contract.
use native.Mathlib.Omega.{arith}
use lib.ListN.{length}
use Rattle.call_log.proofs.Replies.{begin-accepted, begin-refused, fits}
use Rattle.call_log.proofs.writing.begin.Goals as goal

pub put_beginning-requires : goal.put_beginning-requires
put_beginning-requires c = let s = c.args in fits s.h s.note.now s.bytes.now (length s.note.now) (length s.bytes.now) c.in-Ok.ensures

pub overflow_cast-result : goal.overflow_cast-result
overflow_cast-result c =
    let s = c.args in
    let f = fits s.h s.note.now s.bytes.now (length s.note.now) (length s.bytes.now) c.in-Ok.ensures in omega arith

pub returns-in-Ok : goal.returns-in-Ok
returns-in-Ok c = let s = c.args in begin-accepted s.h s.note.now s.bytes.now c.in-Ok.ensures c.put_beginning.ensures

pub returns-in-Err : goal.returns-in-Err
returns-in-Err c = let s = c.args in begin-refused s.h s.note.now s.bytes.now c.in-Err.refusal c.in-Err.ensures
