-- `obikuteru_log_note`: the library's `note`, as a place and a length.
use mathlib.Core.Path.{refl}
use Rattle.log_c.proofs.Answered.{note-read, note-refused}
use Rattle.log_c.proofs.obikuteru_log_note.Goals as goal

pub returns-in-Ok : goal.returns-in-Ok
returns-in-Ok c = note-read c.args.log c.note-note.result c.in-Ok.ensures c.note-note.ensures c.words_of_part.ensures

pub returns-in-Err : goal.returns-in-Err
returns-in-Err c = rw c.code.ensures (note-refused c.args.log c.in-Err.ensures refl)
