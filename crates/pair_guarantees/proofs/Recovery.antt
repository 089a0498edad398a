-- Demand 3 and question 4 for each queue: it sheds load by PIE.
use Rattle.pie_guarantees.proofs.Recovery as proved
use Rattle.pair_rules.specs.Queues.{own}
use Rattle.pair_guarantees.specs.Recovery.{Recovery}
use Rattle.pair_guarantees.specs.Shedding.{queue_of}
use Rattle.pair_guarantees.proofs.Sheds.{formed-fits, own-formed, own-sheds}

pub recovery : Recovery
recovery w p e =
    let formed = own-formed w p e in
    proved.recovery (queue_of w) (own-sheds w) (own w p) formed (formed-fits (own w p) formed).target-low
