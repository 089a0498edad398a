-- Conservation: a flow is a kind of queue that keeps what conservation asks for.
use Rattle.calls.proofs.Conservation as general
use Rattle.calls.proofs.RunKept.{run-kept}
use Rattle.modem_guarantees.specs.Conservation.{Conservation}
use Rattle.modem_guarantees.specs.Handed.{flow_queue, fresh_queue}
use Rattle.modem_guarantees.proofs.FlowKeeps.{Sound, flow-keeps, flow_readings, fresh-empty, fresh-sound}

pub conservation : Conservation
conservation settings clock handles sizes requests e =
    let start = fresh_queue settings clock handles sizes in
    let sound = fresh-sound settings clock handles sizes e in
    let empty = fresh-empty settings clock handles sizes e in
    let k = general.conservation flow_queue flow_readings Sound flow-keeps start requests sound empty in
    record {
      bytes = k.bytes;
      bytes-cover = k.bytes-cover;
      count = k.count;
      count-cover = k.count-cover;
      held = k.held;
      verdicts = k.verdicts;
      marked = (run-kept flow_queue flow_readings Sound flow-keeps start requests sound empty).sound.marked;
      never-2 = k.never-2;
      never-9 = k.never-9;
    }
