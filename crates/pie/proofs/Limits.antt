-- What rule 6 makes of a number, by its sign and its size.
use mathlib.Core.Path.{◌≡◌, refl}
use mathlib.Core.Bool.{true, false, true≢false}
use Prim.Native.Nat.{◌≤◌, ◌<◌}
use native.Mathlib.Omega.{arith}
use borrow.Author.Tests.{ltb-true}
use lib.Dec.{T}
use lib.IntN.{ℤ, pos, negsuc, nat_abs}
use lib.Signed.{non_neg, lt_z}
use mir.Syntax.{w64}
use mir.Val.{Fits, SFits}
use Rattle.units.specs.Kinds.{whole}
use Rattle.pie.specs.Update.{AtMost, limited}

pub below : (p : ℤ) → lt_z p (pos 0) ≡ true → 0 ≡ limited p
unfolding limited
below (pos n) e = omega (arith, ltb-true n 0 e)
below (negsuc n) e = refl

pub fits : (p : ℤ) → SFits w64 p → lt_z p (pos 0) ≡ false → T (non_neg p) × Fits w64 (nat_abs p)
fits (pos n) f e = (tt, record { fits = omega arith })
fits (negsuc n) f e = absurd (true≢false e)

pub more : (p : ℤ) → lt_z p (pos 0) ≡ false → whole < nat_abs p → whole ≡ limited p
unfolding limited
more (pos n) e h = omega arith
more (negsuc n) e h = absurd (true≢false e)

pub less : (p : ℤ) → lt_z p (pos 0) ≡ false → nat_abs p ≤ whole → nat_abs p ≡ limited p
unfolding limited
less (pos n) e h = omega arith
less (negsuc n) e h = absurd (true≢false e)

pub not-above : (p : ℤ) → lt_z p (pos 0) ≡ false → AtMost whole p → nat_abs p ≤ whole
not-above (pos n) e h = h
not-above (negsuc n) e h = absurd (true≢false e)
