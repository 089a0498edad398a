-- The count of ticks, one after the other.
use mathlib.Core.Path.{◌≡◌, refl, ap}
use Prim.Native.Nat.{ℕ, zero, suc, ◌+◌, ◌-◌, ◌<◌}
use native.Mathlib.Omega.{arith}
use borrow.Author.Tests.{ne_eqb}
use Rattle.pie_guarantees.specs.TicksToRecover.{most_left, ticks_until_none}

over : (fuel target : ℕ) → ticks_until_none fuel target 0 ≡ 0
unfolding ticks_until_none
over zero target = refl
over (suc fuel) target = refl

-- nothing is left to count
pub over-at : (b target ticks all : ℕ) → b ≡ 0 → ticks + ticks_until_none (1000 - ticks) target b ≡ all → ticks ≡ all
over-at b target ticks all z known =
    omega (arith, known, ap (ticks_until_none (1000 - ticks) target) z, over (1000 - ticks) target)

-- the fuel is spent
pub spent : (target b ticks all : ℕ) → ticks ≡ 1000 → ticks + ticks_until_none (1000 - ticks) target b ≡ all → ticks ≡ all
unfolding ticks_until_none
spent target b ticks all e known =
    let none : 1000 - ticks ≡ 0 = omega arith in
    omega (arith, known, ap (λ f. ticks_until_none f target b) none)

counts : (fuel target b : ℕ) → (b ≡ 0 → ⊥) → ticks_until_none (suc fuel) target b ≡ suc (ticks_until_none fuel target (most_left target b))
unfolding ticks_until_none
counts fuel target b h = rw (ne_eqb b 0 h)

-- one tick more
pub again : (target b next ticks all : ℕ) → ticks < 1000 → (b ≡ 0 → ⊥) → next ≡ most_left target b →
    ticks + ticks_until_none (1000 - ticks) target b ≡ all → (ticks + 1) + ticks_until_none (1000 - (ticks + 1)) target next ≡ all
again target b next ticks all l h e known =
    let fuel : 1000 - ticks ≡ suc (1000 - (ticks + 1)) = omega arith in
    let one = counts (1000 - (ticks + 1)) target b h in
    rw e (omega (arith, known, ap (λ f. ticks_until_none f target b) fuel, one))
