-- The number of ticks that suffice, against the bound on the probability.
use mathlib.Core.Path.{◌≡◌, refl}
use mathlib.Core.Bool.{◌&&◌}
use Prim.Native.Nat.{ℕ, zero, suc, ◌+◌, ◌≤◌}
use native.Mathlib.Nat.{add-zero}
use native.Mathlib.Omega.{arith}
use borrow.Author.Tests.{eqb-true, le-leb, leb-true}
use lib.Dec.{eqb, leb}
use Rattle.units.specs.Kinds.{whole}
use Rattle.laws.proofs.Choice.{at-cond}
use Rattle.laws.proofs.Tests.{and_left, and_right}
use Rattle.pie.specs.Update.{capped, decayed, divisor_of, error_of, limited, lookup, next_prob, step_of}
use Rattle.pie_guarantees.specs.TicksToRecover.{Examples, FuelSuffices, HigherIsSooner, most_left, row_before}
use Rattle.pie_guarantees.specs.TicksToRecover.{ticks_to_recover, ticks_until_none}
use Rattle.pie_guarantees.proofs.Bound.{bound, bound-mono, bound-step}

-- where the bound is 0 after m ticks more, it is 0 after those that are counted, and they are at most m
abbrev Counted : (fuel target n m : ℕ) → Type 0
Counted fuel target n m =
    (bound target (suc n + ticks_until_none fuel target (bound target (suc n))) ≡ 0)
    × (ticks_until_none fuel target (bound target (suc n)) ≤ m)

abbrev one_more : (target n m t : ℕ) → (bound target (suc (suc n) + t) ≡ 0) × (t ≤ m) → (bound target (suc n + suc t) ≡ 0) × (suc t ≤ suc m)
one_more target n m t x = let shifted : suc n + suc t ≡ suc (suc n) + t = omega arith in (rw shifted x.0, omega (arith, x.1))

pub counted : (fuel target n m : ℕ) → m ≤ fuel → bound target (suc n + m) ≡ 0 → Counted fuel target n m
unfolding ticks_until_none
counted zero target n m h e = let none : m ≡ 0 = omega arith in (rw none at e, omega arith)
counted (suc fuel) target n zero h e =
    let none : bound target (suc n) ≡ 0 = rw add-zero at e in
    rw (none, add-zero) (none, omega arith)
counted (suc fuel) target n (suc m) h e =
    let shifted : suc n + suc m ≡ suc (suc n) + m = omega arith in
    at-cond (λ t. (bound target (suc n + t) ≡ 0) × (t ≤ suc m)) (eqb (bound target (suc n)) 0)
    (λ z. (rw add-zero (eqb-true (bound target (suc n)) 0 z), omega arith))
    (λ z. one_more target n m _ (rw (bound-step target n) at (counted fuel target (suc n) m (omega arith) (rw shifted at e))))

-- so with the ticks that suffice at a lower target
pub reached-from : (least target m : ℕ) → least ≤ target → m ≤ 1000 → bound least (suc m) ≡ 0 →
    (bound target (suc (ticks_until_none 1000 target whole)) ≡ 0) × (ticks_until_none 1000 target whole ≤ m)
unfolding bound
reached-from least target m h l e =
    let one : (t : ℕ) → suc 0 + t ≡ suc t = λ t. omega arith in
    let none : bound target (suc m) ≡ 0 = omega (arith, e, bound-mono least target (suc m) h) in
    rw (one (ticks_until_none 1000 target whole)) at (counted 1000 target 0 m l (rw (one m) none))

least-reached : bound 1000 557 ≡ 0
unfolding bound capped decayed divisor_of error_of limited lookup most_left next_prob row_before step_of
least-reached = refl

from-least : (target : ℕ) → 1000 ≤ target →
    (bound target (suc (ticks_until_none 1000 target whole)) ≡ 0) × (ticks_until_none 1000 target whole ≤ 556)
from-least target h = reached-from 1000 target 556 h (omega arith) least-reached

-- the bound is 0 after so many ticks, at every target in range
pub reached : (target : ℕ) → 1000 ≤ target → target ≤ 100000 → bound target (ticks_to_recover target) ≡ 0
unfolding ticks_to_recover
reached target l h = rw (le-leb 1000 target l, le-leb target 100000 h) (from-least target l).0

pub fuel-suffices : FuelSuffices
unfolding ticks_to_recover
fuel-suffices target =
    at-cond (λ n. n ≤ 557) (leb 1000 target && leb target 100000)
    (λ e. omega (arith, (from-least target (leb-true 1000 target (and_left (leb 1000 target) (leb target 100000) e))).1))
    (λ e. omega arith)

pub higher-is-sooner : HigherIsSooner
unfolding ticks_to_recover
higher-is-sooner low high l h =
    at-cond (λ n. n ≤ ticks_to_recover low) (leb 1000 high && leb high 100000)
    (λ e.
    let top = leb-true high 100000 (and_right (leb 1000 high) (leb high 100000) e) in
    let at_low = from-least low l in
    rw (le-leb 1000 low l, le-leb low 100000 (omega arith))
    (omega (arith, (reached-from low high (ticks_until_none 1000 low whole) h (omega (arith, at_low.1)) at_low.0).1)))
    (λ e. omega arith)

pub examples : Examples
unfolding capped decayed divisor_of error_of limited lookup most_left next_prob row_before step_of ticks_to_recover ticks_until_none
examples = refl
