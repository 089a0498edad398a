-- A call of a burst leaves a queue that is ready for one arrival less.
use Prim.Native.Nat.{ℕ, suc}
use native.Mathlib.Omega.{arith}
use Rattle.ring_words.specs.Lent.{Lent}
use Rattle.ring_steps.specs.Fitting.{Ready}
use Rattle.ring_steps.proofs.Kept.{ready-kept}
use Rattle.ring_burst.specs.Calls.{Call, asked, unknown}
use Rattle.ring_burst.specs.Burst.{after}

pub ready-after : (q : Lent) (c : Call) (n : ℕ) → Ready q (suc n) → Ready (after q c) n
ready-after q (asked r) n h = ready-kept q r n h
ready-after q unknown n (fits, room) = (fits, omega arith)
