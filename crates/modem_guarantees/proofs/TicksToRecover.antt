-- The number of ticks that suffice, against the bound on the probability.
use mathlib.Core.Path.{◌≡◌, refl}
use mathlib.Core.Bool.{◌&&◌}
use Prim.Native.Nat.{ℕ, zero, suc, ◌+◌, ◌≤◌}
use native.Mathlib.Nat.{add-zero, zero-add}
use native.Mathlib.Omega.{arith}
use borrow.Author.Tests.{eqb-true, le-leb, leb-true}
use lib.Dec.{eqb, leb}
use Rattle.laws.proofs.Choice.{at-cond}
use Rattle.laws.proofs.Tests.{and_left, and_right}
use Rattle.pie.specs.Update.{error_of, lookup}
use Rattle.docsis_pie.specs.Constants.{most_prob}
use Rattle.docsis_pie.specs.Probability.{adjusted, capped, divisor_of, limited, next_prob, step_of, stepped_prob}
use Rattle.modem_guarantees.specs.TicksToRecover.{Examples, Followed, FuelSuffices, HigherIsSooner, Longest}
use Rattle.modem_guarantees.specs.TicksToRecover.{left_of, most_in, most_left, ticks_followed, ticks_to_recover, ticks_until_none}
use Rattle.modem_guarantees.proofs.IdleTicks.{bound, bound-mono, bound-step}

-- where the bound is 0 after m ticks more, it is 0 after those that are counted, and they are at most m
abbrev Counted : (fuel target n m : ℕ) → Type 0
Counted fuel target n m =
    (bound target (n + ticks_until_none fuel target (bound target n)) ≡ 0) × (ticks_until_none fuel target (bound target n) ≤ m)

abbrev one_more : (target n m t : ℕ) → (bound target (suc n + t) ≡ 0) × (t ≤ m) → (bound target (n + suc t) ≡ 0) × (suc t ≤ suc m)
one_more target n m t x = let shifted : n + suc t ≡ suc n + t = omega arith in (rw shifted x.0, omega (arith, x.1))

until_none : (fuel target n m : ℕ) → m ≤ fuel → bound target (n + m) ≡ 0 → Counted fuel target n m
unfolding ticks_until_none
until_none zero target n m h e = let none : m ≡ 0 = omega arith in (rw none at e, omega arith)
until_none (suc fuel) target n zero h e =
    let none : bound target n ≡ 0 = rw add-zero at e in
    rw (none, add-zero) (none, omega arith)
until_none (suc fuel) target n (suc m) h e =
    let shifted : n + suc m ≡ suc n + m = omega arith in
    at-cond (λ t. (bound target (n + t) ≡ 0) × (t ≤ suc m)) (eqb (bound target n) 0)
    (λ z. (rw add-zero (eqb-true (bound target n) 0 z), omega arith))
    (λ z. one_more target n m _ (rw (bound-step target n) at (until_none fuel target (suc n) m (omega arith) (rw shifted at e))))

-- so with the ticks that suffice at a lower target
reached-from : (least target m : ℕ) → least ≤ target → m ≤ 1000 → bound least m ≡ 0 →
    (bound target (ticks_until_none 1000 target most_prob) ≡ 0) × (ticks_until_none 1000 target most_prob ≤ m)
unfolding bound
reached-from least target m h l e =
    let none : bound target m ≡ 0 = omega (arith, e, bound-mono least target m h) in
    rw zero-add at (until_none 1000 target 0 m l (rw zero-add none))

least-reached : bound 1000 502 ≡ 0
unfolding adjusted bound capped error_of left_of limited most_in most_left step_of
least-reached = refl

from-least : (target : ℕ) → 1000 ≤ target →
    (bound target (ticks_until_none 1000 target most_prob) ≡ 0) × (ticks_until_none 1000 target most_prob ≤ 502)
from-least target h = reached-from 1000 target 502 h (omega arith) least-reached

-- the bound is 0 after so many ticks, at every target in range
pub reached : (target : ℕ) → 1000 ≤ target → target ≤ 100000 → bound target (ticks_to_recover target) ≡ 0
unfolding ticks_to_recover
reached target l h = rw (le-leb 1000 target l, le-leb target 100000 h) (from-least target l).0

pub fuel-suffices : FuelSuffices
unfolding ticks_to_recover
fuel-suffices target =
    at-cond (λ n. n ≤ 502) (leb 1000 target && leb target 100000)
    (λ e. omega (arith, (from-least target (leb-true 1000 target (and_left (leb 1000 target) (leb target 100000) e))).1))
    (λ e. omega arith)

pub higher-is-sooner : HigherIsSooner
unfolding ticks_to_recover
higher-is-sooner low high l h =
    at-cond (λ n. n ≤ ticks_to_recover low) (leb 1000 high && leb high 100000)
    (λ e.
    let top = leb-true high 100000 (and_right (leb 1000 high) (leb high 100000) e) in
    let at_low = from-least low l in
    rw (le-leb 1000 low l, le-leb low 100000 (omega arith))
    (omega (arith, (reached-from low high (ticks_until_none 1000 low most_prob) h (omega (arith, at_low.1)) at_low.0).1)))
    (λ e. omega arith)

pub examples : Examples
unfolding adjusted capped error_of left_of limited most_in most_left step_of ticks_to_recover ticks_until_none
examples = refl

pub followed : Followed
unfolding adjusted capped divisor_of error_of limited lookup next_prob step_of stepped_prob ticks_followed
followed = refl

pub longest : Longest
unfolding adjusted capped divisor_of error_of limited lookup next_prob step_of stepped_prob ticks_followed
longest = refl
