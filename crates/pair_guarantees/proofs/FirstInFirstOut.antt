-- Demand 2 over lists of calls of both queues: either is a kind of queue whose calls move packets in order.
use Rattle.calls.proofs.FirstInFirstOut as general
use Rattle.pair_guarantees.specs.FirstInFirstOut.{FirstInFirstOut}
use Rattle.pair_guarantees.specs.Handed.{one_of_two}
use Rattle.pair_guarantees.proofs.QueueKeeps.{queue-keeps}
use Rattle.pair_guarantees.proofs.Starting.{fresh-empty, fresh-whole}
use Rattle.pair_guarantees.proofs.Whole.{Whole}

pub first-in-first-out : FirstInFirstOut
first-in-first-out w slots intercom passengers handles sizes calls e =
    general.first-in-first-out (one_of_two w) Whole (queue-keeps w).sound (queue-keeps w).order _ calls
    (fresh-whole slots intercom passengers e handles sizes) (fresh-empty slots intercom passengers e handles sizes w).queued
