-- Demand 2 over lists of calls: the ring is a kind of queue whose calls move packets in order.
use Rattle.calls.proofs.FirstInFirstOut as general
use Rattle.ring_guarantees.specs.FirstInFirstOut.{FirstInFirstOut}
use Rattle.ring_guarantees.specs.Handed.{ring_queue}
use Rattle.ring_guarantees.proofs.RingKeeps.{Sound, fresh-empty, fresh-sound, ring-keeps}

pub first-in-first-out : FirstInFirstOut
first-in-first-out settings clock handles sizes requests e =
    general.first-in-first-out ring_queue Sound ring-keeps.sound ring-keeps.order _ requests
    (fresh-sound settings clock handles sizes e) (fresh-empty settings clock handles sizes e).queued
