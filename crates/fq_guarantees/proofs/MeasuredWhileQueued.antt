-- Wherever a measurement of a flow runs, a packet of it is queued: it sheds load by PIE.
use Rattle.pie_guarantees.proofs.MeasuredWhileQueued as proved
use Rattle.fq_guarantees.specs.MeasuredWhileQueued.{MeasuredWhileQueued}
use Rattle.fq_guarantees.specs.Shedding.{flow_queue}
use Rattle.fq_guarantees.proofs.Facts.{facts}
use Rattle.fq_guarantees.proofs.Sheds.{flow-sheds, own-formed}

pub measured-while-queued : MeasuredWhileQueued
measured-while-queued f start calls h e =
    proved.measured-while-queued (flow_queue f) (flow-sheds f h) start calls (own-formed f h start (facts start.state e))
