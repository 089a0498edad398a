-- `obikuteru_log_add`: the library's `add_call`, in words and bytes.
use mathlib.Core.Path.{refl}
use Rattle.log_codec.specs.Records.{decoded}
use Rattle.log_c.proofs.Answered.{counted, uncounted}
use Rattle.log_c.proofs.obikuteru_log_add.Goals as goal

pub returns-in-Ok : goal.returns-in-Ok
returns-in-Ok c = let s = c.args in counted s.words.now c.told-words (decoded s.call.now 0) s.bytes.now c.add_call.new.w c.in-Ok.ensures

pub returns-in-Err : goal.returns-in-Err
returns-in-Err c =
    let s = c.args in
    rw c.code.ensures (uncounted s.words.now c.told-words (decoded s.call.now 0) s.bytes.now c.add_call.new.w c.in-Err.refusal c.in-Err.ensures refl)
