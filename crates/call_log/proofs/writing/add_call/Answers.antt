-- `add_call`: the tests in order, then the record's bytes and the trailer.
use mathlib.Core.Path.{ap, ◌∙◌}
use lib.ListN.{length}
use native.Mathlib.Omega.{arith}
use Rattle.std.proofs.lemmas.Result.{err_from_is_err_and}
use Rattle.log_codec.specs.Records.{decoded}
use Rattle.log_codec.specs.declared.Record.{Record}
use Rattle.call_log.specs.Writer.{add_refusal}
use Rattle.call_log.proofs.Replies.{add-accepted, add-refused, room}
use Rattle.call_log.proofs.writing.add_call.Goals as goal

pub returns-in_err-may_add : goal.returns-in_err-may_add
returns-in_err-may_add c =
    let s = c.args in
    let p = err_from_is_err_and c.from_residual.result c.from_residual.ensures.1 in
    let e = c.in_err-may_add.ensures ∙ ap (λ (r : Record). add_refusal s.w.now r (length s.bytes.now)) c.get.ensures in
    rw (p.1, p.2) (add-refused s.w.now (decoded s.call.now 0) s.bytes.now c.in_err-may_add.field-0.0 e)

pub put_call-requires : goal.put_call-requires
put_call-requires c =
    let s = c.args in
    let e = c.in_ok-may_add.ensures ∙ ap (λ (r : Record). add_refusal s.w.now r (length s.bytes.now)) c.get.ensures in
    room s.w.now (decoded s.call.now 0) s.bytes.now (length s.bytes.now) e

pub overflow_add-w : goal.overflow_add-w
overflow_add-w c =
    let s = c.args in
    let e = c.in_ok-may_add.ensures ∙ ap (λ (r : Record). add_refusal s.w.now r (length s.bytes.now)) c.get.ensures in
    let q = room s.w.now (decoded s.call.now 0) s.bytes.now (length s.bytes.now) e in omega arith

pub returns : goal.returns
returns c =
    let s = c.args in
    let e = c.in_ok-may_add.ensures ∙ ap (λ (r : Record). add_refusal s.w.now r (length s.bytes.now)) c.get.ensures in
    add-accepted s.w.now (decoded s.call.now 0) s.bytes.now e c.put_call.ensures
