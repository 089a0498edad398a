-- With both delays 0 the step is never positive (Q-9): it is −`fall`, and p, which takes it, does not rise.
use mathlib.Core.Path.{◌≡◌, refl}
use mathlib.Core.Bool.{Bool, true, false, and-false}
use mathlib.Core.Logic.{◌⊎◌, inl, inr, ⊎_elim}
use Prim.Native.Nat.{ℕ, zero, suc, ◌-◌, ◌*◌, ◌/◌, ◌≤◌, ◌<◌}
use native.Mathlib.Decide.{dec_le}
use native.Mathlib.Nat.{zero-div, zero-mul}
use native.Mathlib.Omega.{arith}
use borrow.Author.Tests.{lt-ltb}
use lib.IntN.{ℤ, pos, negsuc, neg_ℤ, ◌+ℤ◌, ◌-ℤ◌, ◌*ℤ◌, +ℤ_idl, +ℤ_idr}
use lib.Signed.{quot_z}
use Rattle.pie.specs.Update.{AtMost, capped, decayed, error_of, step_of}
use Rattle.pie.proofs.Ints.{pos-minus}

-- how far the step takes p down, by rules 2 and 4
unfoldable pub fall : (target k : ℕ) → ℕ
fall target k = target * 8388608 / (15625 * k)

pub le-or-lt : (a b : ℕ) → (a ≤ b) ⊎ (b < a)
le-or-lt a b = of (dec_le a b)
  where
    of : Dec (a ≤ b) → (a ≤ b) ⊎ (b < a)
    of (yes h) = inl h
    of (no h) = inr (omega arith)

neg-mul : (m c : ℕ) → neg_ℤ (pos m) *ℤ pos c ≡ neg_ℤ (pos (m * c))
neg-mul zero c = rw zero-mul
neg-mul (suc m) c = refl

neg-quot : (n d : ℕ) → quot_z (neg_ℤ (pos n)) (pos d) ≡ neg_ℤ (pos (n / d))
neg-quot zero d = rw zero-div
neg-quot (suc n) d = refl

error-empty : (target : ℕ) → error_of 0 0 target ≡ neg_ℤ (pos target)
unfolding error_of
error-empty target = rw (+ℤ_idr, +ℤ_idl (neg_ℤ (pos target)))

pub step-empty : (target k : ℕ) → step_of (error_of 0 0 target) k ≡ neg_ℤ (pos (fall target k))
unfolding step_of fall
step-empty target k = rw (error-empty target, neg-mul, neg-quot)

-- a difference that is below 0
pub sub-below : (p s : ℕ) → p < s → pos p -ℤ pos s ≡ negsuc (s - suc p)
sub-below p zero h = absurd (omega arith)
sub-below p (suc s) h = rw (lt-ltb p (suc s) h)

sub-at-most : (p s : ℕ) → AtMost p (pos p -ℤ pos s)
sub-at-most p s = ⊎_elim (λ h. rw (pos-minus p s h) (omega arith)) (λ h. rw (sub-below p s h) tt) (le-or-lt s p)

-- the cap leaves what is not positive (Q-12)
capped-fall : (calm : Bool) (p s : ℕ) → capped calm p (neg_ℤ (pos s)) ≡ neg_ℤ (pos s)
unfolding capped
capped-fall false p s = refl
capped-fall true p zero = rw and-false
capped-fall true p (suc s) = rw and-false

-- the step of either profile
pub capped-empty : (calm : Bool) (p target k : ℕ) → capped calm p (step_of (error_of 0 0 target) k) ≡ neg_ℤ (pos (fall target k))
capped-empty calm p target k = rw (step-empty target k) (capped-fall calm p (fall target k))

pub idle-step-not-positive : (calm : Bool) (p target k : ℕ) → AtMost p (pos p +ℤ capped calm p (step_of (error_of 0 0 target) k))
idle-step-not-positive calm p target k = rw (capped-empty calm p target k) (sub-at-most p (fall target k))

-- rule 5 takes it further down
pub decayed-at-most : (most p : ℕ) (q : ℤ) → p ≤ most → AtMost p q → AtMost most (decayed true q)
unfolding decayed
decayed-at-most most p (pos n) h k = omega arith
decayed-at-most most p (negsuc n) h k = tt
