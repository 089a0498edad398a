-- Question 3: the ring is a kind of queue that keeps what conservation asks for.
use Rattle.calls.proofs.Conservation as general
use Rattle.ring_guarantees.specs.Conservation.{Conservation}
use Rattle.ring_guarantees.specs.Handed.{ring_queue}
use Rattle.ring_guarantees.proofs.RingKeeps.{Sound, fresh-empty, fresh-sound, ring-keeps, ring_readings}

pub conservation : Conservation
conservation settings clock handles sizes requests e =
    let k =
    general.conservation ring_queue ring_readings Sound ring-keeps _ requests
    (fresh-sound settings clock handles sizes e) (fresh-empty settings clock handles sizes e) in
    record {
      bytes = k.bytes;
      bytes-cover = k.bytes-cover;
      count = k.count;
      count-cover = k.count-cover;
      held = k.held;
      verdicts = k.verdicts;
      never-2 = k.never-2;
      never-9 = k.never-9;
    }
