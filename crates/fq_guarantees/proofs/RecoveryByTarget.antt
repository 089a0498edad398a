-- Demand 3 and question 4 by the target, for each flow.
use Rattle.pie_guarantees.proofs.RecoveryByTarget as proved
use Rattle.pie_guarantees.proofs.ShorterRecovery as shorter
use Rattle.fq_guarantees.specs.RecoveryByTarget.{RecoveryByTarget}
use Rattle.fq_guarantees.specs.ShorterRecovery.{ShorterRecovery}
use Rattle.fq_guarantees.specs.Shedding.{flow_queue}
use Rattle.fq_guarantees.proofs.Facts.{facts}
use Rattle.fq_guarantees.proofs.Sheds.{flow-sheds, own-formed}

pub recovery-by-target : RecoveryByTarget
recovery-by-target f s h e =
    let k = facts s.state e in
    let settings = k.common.settings in
    proved.recovery-by-target (flow_queue f) (flow-sheds f h) s (own-formed f h s k) settings.target-low settings.target-high

pub shorter-recovery : ShorterRecovery
shorter-recovery f s h e = shorter.shorter-recovery (flow_queue f) (flow-sheds f h) s (own-formed f h s (facts s.state e))
