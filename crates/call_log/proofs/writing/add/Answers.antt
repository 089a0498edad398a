-- `add`: the record's bytes are made first.
use mathlib.Core.Path.{ap, ◌∙◌}
use native.Mathlib.Omega.{arith}
use Rattle.log_codec.specs.Records.{InRange}
use Rattle.log_codec.specs.declared.Record.{Record}
use Rattle.call_log.specs.Writer.{add}
use Rattle.call_log.proofs.Copied.{encoded-call}
use Rattle.call_log.proofs.writing.add.Goals as goal

pub returns : goal.returns
returns c =
    let s = c.args in
    let fits : InRange s.r = (omega arith, (omega arith, (omega arith, (omega arith, (omega arith, (omega arith, (omega arith, (omega arith, (omega arith, (omega arith, tt)))))))))) in
    c.add_call.ensures ∙ ap (λ (r : Record). add s.w.now r s.bytes.now) (encoded-call s.r fits c.put.ensures)
