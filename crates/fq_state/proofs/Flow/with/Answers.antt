-- `Flow::with`.
use Rattle.fq_state.specs.Flow.{flow_with}
use Rattle.fq_state.proofs.Flow.with.Goals as goal

pub returns : goal.returns
unfolding flow_with
returns c = simp c.flag.ensures
