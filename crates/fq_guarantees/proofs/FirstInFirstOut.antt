-- Demand 2 over lists of calls of 64 flows.
use Rattle.fq_guarantees.specs.FirstInFirstOut.{FirstInFirstOut}
use Rattle.fq_guarantees.proofs.RunKept.{run-kept}

pub first-in-first-out : FirstInFirstOut
first-in-first-out settings clock handles sizes requests e = (run-kept settings clock handles sizes requests e).order
