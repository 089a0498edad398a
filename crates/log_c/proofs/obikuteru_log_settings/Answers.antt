-- `obikuteru_log_settings`: the library's `settings`, in bytes.
use mathlib.Core.Path.{refl}
use Rattle.log_c.proofs.Answered.{settings-read, settings-refused}
use Rattle.log_c.proofs.obikuteru_log_settings.Goals as goal

pub returns-in-Ok : goal.returns-in-Ok
returns-in-Ok c = settings-read c.in-Ok.ensures c.put_header.ensures

pub returns-in-Err : goal.returns-in-Err
returns-in-Err c = rw c.code.ensures (settings-refused c.in-Err.ensures refl)
