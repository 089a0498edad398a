-- `obikuteru_log_read`: the library's `read_at`, in words and bytes.
use mathlib.Core.Path.{refl}
use Rattle.log_c.proofs.Answered.{read-end, read-record, read-refused, told}
use Rattle.log_c.proofs.obikuteru_log_read.Goals as goal

pub returns-in-Ok-Some : goal.returns-in-Ok-Some
returns-in-Ok-Some c = read-record c.args.place.now (told c.in-Ok-Some.field-0-is c.in-Ok-Some.ensures) c.put.ensures

pub returns-in-Ok-None : goal.returns-in-Ok-None
returns-in-Ok-None c = read-end c.args.place.now (told c.in-Ok-None.field-0-is c.in-Ok-None.ensures)

pub returns-in-Err : goal.returns-in-Err
returns-in-Err c = rw c.code.ensures (read-refused c.args.place.now c.in-Err.ensures refl)
