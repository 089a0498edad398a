-- Wherever a measurement runs, a packet is queued: the ring sheds load by PIE.
use Rattle.pie_guarantees.proofs.MeasuredWhileQueued as proved
use Rattle.ring_guarantees.specs.MeasuredWhileQueued.{MeasuredWhileQueued}
use Rattle.ring_guarantees.proofs.RingSheds.{ring-sheds, ring_shedding}

pub measured-while-queued : MeasuredWhileQueued
measured-while-queued start calls w = proved.measured-while-queued ring_shedding ring-sheds start calls w
