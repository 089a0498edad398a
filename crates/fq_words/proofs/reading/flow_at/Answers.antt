-- `flow_at`: the flow read is that of the list.
use mathlib.Core.Path.{◌∙◌}
use Rattle.fq_words.proofs.Words.{flow-read}
use Rattle.fq_words.proofs.reading.flow_at.Goals as goal

pub returns : goal.returns
returns c =
    c.read.ensures ∙ flow-read c.args.w.now c.args.i c.requires
