-- First in first out: a flow is a kind of queue whose calls move packets in order.
use Rattle.calls.proofs.FirstInFirstOut as general
use Rattle.modem_guarantees.specs.FirstInFirstOut.{FirstInFirstOut}
use Rattle.modem_guarantees.specs.Handed.{flow_queue}
use Rattle.modem_guarantees.proofs.FlowKeeps.{Sound, flow-keeps, fresh-empty, fresh-sound}

pub first-in-first-out : FirstInFirstOut
first-in-first-out settings clock handles sizes requests e =
    general.first-in-first-out flow_queue Sound flow-keeps.sound flow-keeps.order _ requests
    (fresh-sound settings clock handles sizes e) (fresh-empty settings clock handles sizes e).queued
