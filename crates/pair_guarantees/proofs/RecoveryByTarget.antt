-- Demand 3 and question 4 by the target, for each queue.
use Rattle.pie_guarantees.proofs.RecoveryByTarget as proved
use Rattle.pie_guarantees.proofs.ShorterRecovery as shorter
use Rattle.pair_rules.specs.Queues.{own}
use Rattle.pair_guarantees.specs.RecoveryByTarget.{RecoveryByTarget}
use Rattle.pair_guarantees.specs.ShorterRecovery.{ShorterRecovery}
use Rattle.pair_guarantees.specs.Shedding.{queue_of}
use Rattle.pair_guarantees.proofs.Sheds.{formed-fits, own-formed, own-sheds}

pub recovery-by-target : RecoveryByTarget
recovery-by-target w p e =
    let formed = own-formed w p e in
    let f = formed-fits (own w p) formed in
    proved.recovery-by-target (queue_of w) (own-sheds w) (own w p) formed f.target-low f.target-high

pub shorter-recovery : ShorterRecovery
shorter-recovery w p e = shorter.shorter-recovery (queue_of w) (own-sheds w) (own w p) (own-formed w p e)
