-- The sizes of the numbers of a tick, where its inputs are in range.
use mathlib.Core.Path.{◌≡◌, refl}
use mathlib.Core.Bool.{◌&&◌}
use Prim.Native.Nat.{ℕ, zero, suc, ◌+◌, ◌≤◌}
use native.Mathlib.Omega.{arith}
use lib.IntN.{ℤ, pos, negsuc, neg_ℤ, nat_abs, ◌-ℤ◌}
use lib.Signed.{lt_z}
use lib.Dec.{leb}
use Rattle.units.specs.Kinds.{tenth}
use Rattle.laws.proofs.Choice.{either}
use Rattle.pie.proofs.Ints.{abs-add}
use Rattle.docsis_pie.specs.Constants.{cap}
use Rattle.docsis_pie.specs.Probability.{capped}

pub capped_small : (p most : ℕ) (step : ℤ) → cap ≤ most → nat_abs step ≤ most → nat_abs (capped p step) ≤ most
unfolding capped
capped_small p most step h k = either (λ z. nat_abs z ≤ most) (leb tenth p && lt_z (pos cap) step) (pos cap) step h k

abs_neg : (z : ℤ) → nat_abs (neg_ℤ z) ≡ nat_abs z
abs_neg (pos zero) = refl
abs_neg (pos (suc n)) = refl
abs_neg (negsuc n) = refl

pub abs-sub : (a b : ℤ) → nat_abs (a -ℤ b) ≤ nat_abs a + nat_abs b
abs-sub a b = omega (arith, abs-add a (neg_ℤ b), abs_neg b)
