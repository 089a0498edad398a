-- First in first out, of any kind of queue.
use Rattle.calls.specs.FirstInFirstOut.{FirstInFirstOut, InOrder}
use Rattle.calls.specs.Handed.{begin}
use Rattle.calls.proofs.RunKept.{step-in-order, steps}

pub first-in-first-out : FirstInFirstOut
first-in-first-out k Sound sound moves start calls s none =
    (steps k (λ r. Sound r.queue × InOrder k r)
    (λ r c h. (sound r.queue c h.0, step-in-order k r c (moves r.queue c h.0) h.1))
    (begin k start) calls (s, rw none)).1
