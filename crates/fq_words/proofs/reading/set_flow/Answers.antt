-- `set_flow`: the flow written is that of the list.
use mathlib.Core.Path.{ap, ◌∙◌}
use Rattle.fq_words.specs.Words.{flows_of}
use Rattle.fq_words.proofs.Words.{flow-set}
use Rattle.fq_words.proofs.reading.set_flow.Goals as goal

pub returns : goal.returns
returns c =
    ap flows_of c.write.ensures ∙ flow-set c.args.w.now c.args.i c.args.f c.told-w c.requires
