-- The ranges that the algorithm's numbers keep, whatever the inputs.
use Prim.Native.Nat.{ℕ, ◌≤◌, min}
use native.Mathlib.Omega.{arith}
use lib.IntN.{ℤ, pos, negsuc}
use lib.Dec.{ltb}
use Rattle.units.specs.Kinds.{none}
use Rattle.laws.proofs.Choice.{either}
use Rattle.pie.specs.Constants.{longest}
use Rattle.docsis_pie.specs.Constants.{low, most_prob}
use Rattle.docsis_pie.specs.Delay.{delay_of}
use Rattle.docsis_pie.specs.DropDecision.{scaled_of}
use Rattle.docsis_pie.specs.Probability.{limited, next_prob, stepped_prob}

pub at_most : (n most : ℕ) → min n most ≤ most
at_most n most = omega arith

pub delay-le : (bytes credits peak sustained : ℕ) → delay_of bytes credits peak sustained ≤ longest
unfolding delay_of
delay-le bytes credits peak sustained = at_most _ longest

pub scaled-le : (p size : ℕ) → scaled_of p size ≤ low
unfolding scaled_of
scaled-le p size = at_most _ low

pub limited-le : (p : ℤ) → limited p ≤ most_prob
unfolding limited
limited-le (pos p) = at_most p most_prob
limited-le (negsuc n) = omega arith

pub next-prob-le : (p allowance delay old target : ℕ) → next_prob p allowance delay old target ≤ most_prob
unfolding next_prob stepped_prob
next-prob-le p allowance delay old target =
    either (λ n. n ≤ most_prob) (ltb 0 allowance) none (stepped_prob p delay old target) (omega arith) (limited-le _)
