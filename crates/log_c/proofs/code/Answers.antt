-- `code`: 0, or 100 and the number.
use mathlib.Core.Path.{refl}
use Rattle.log_c.proofs.Answered.{no_code}
use Rattle.log_c.proofs.code.Goals as goal

pub returns-in-Err : goal.returns-in-Err
returns-in-Err c = rw c.code.ensures (no_code c.in-Err.is refl)
