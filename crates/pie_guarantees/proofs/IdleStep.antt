-- Q-9: the step is −`fall`.
use mathlib.Core.Bool.{Bool}
use Prim.Native.Nat.{ℕ, zero, suc}
use native.Mathlib.Omega.{arith}
use lib.IntN.{pos, neg_ℤ}
use Rattle.units.specs.Kinds.{whole}
use Rattle.pie.specs.Update.{AtMost, divisor_of}
use Rattle.pie.proofs.IdleStep.{capped-empty, decayed-at-most, fall, idle-step-not-positive}
use Rattle.pie_guarantees.specs.IdleStep.{NeverPositive, UpperLimitNeverActs}

below-0 : (n : ℕ) → AtMost 0 (neg_ℤ (pos n))
below-0 zero = omega arith
below-0 (suc n) = tt

pub never-positive : NeverPositive
never-positive calm p target = rw (capped-empty calm p target (divisor_of p)) (below-0 (fall target (divisor_of p)))

pub upper-limit-never-acts : UpperLimitNeverActs
upper-limit-never-acts calm p target h = decayed-at-most whole p _ h (idle-step-not-positive calm p target (divisor_of p))
