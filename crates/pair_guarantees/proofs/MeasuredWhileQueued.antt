-- Wherever a measurement runs, a packet of that queue is queued: it sheds load by PIE.
use Rattle.pie_guarantees.proofs.MeasuredWhileQueued as proved
use Rattle.pair_rules.specs.Queues.{own}
use Rattle.pair_guarantees.specs.MeasuredWhileQueued.{MeasuredWhileQueued}
use Rattle.pair_guarantees.specs.Shedding.{queue_of}
use Rattle.pair_guarantees.proofs.Sheds.{own-formed, own-sheds}

pub measured-while-queued : MeasuredWhileQueued
measured-while-queued w p calls e = proved.measured-while-queued (queue_of w) (own-sheds w) (own w p) calls (own-formed w p e)
