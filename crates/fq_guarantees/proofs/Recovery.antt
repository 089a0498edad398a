-- Demand 3 and question 4 for each flow: it sheds load by PIE.
use Rattle.pie_guarantees.proofs.Recovery as proved
use Rattle.fq_guarantees.specs.Recovery.{Recovery}
use Rattle.fq_guarantees.specs.Shedding.{flow_queue}
use Rattle.fq_guarantees.proofs.Facts.{facts}
use Rattle.fq_guarantees.proofs.Sheds.{flow-sheds, own-formed}

pub recovery : Recovery
recovery f s h e =
    let k = facts s.state e in
    proved.recovery (flow_queue f) (flow-sheds f h) s (own-formed f h s k) k.common.settings.target-low
