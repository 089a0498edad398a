-- Laws of `set`, `map` and sums of lists.
use mathlib.Core.Path.{◌≡◌, refl, ap}
use mathlib.Core.Bool.{Bool, true, false}
use mathlib.Core.List.{List, [], ◌∷◌, map}
use Prim.Native.Nat.{ℕ, zero, suc, ◌+◌, ◌≤◌, ◌<◌}
use native.Mathlib.Omega.{arith}
use borrow.Author.Tests.{eqb-true, eqb-false}
use lib.Dec.{eqb}
use lib.ListN.{get_or, length, replicate, set}
use lib.Seq.{get_or-set_same, get_or-set_other}
use Rattle.pie.specs.Verdicts.{total}

pub map-set : {A B : Type 0} (f : A → B) (l : List A) (i : ℕ) (a : A) → map f (set l i a) ≡ set (map f l) i (f a)
map-set f [] i a = refl
map-set f (x ∷ l) zero a = refl
map-set f (x ∷ l) (suc i) a = ap (λ t. f x ∷ t) (map-set f l i a)

pub map-replicate : {A B : Type 0} (f : A → B) (n : ℕ) (a : A) → map f (replicate n a) ≡ replicate n (f a)
map-replicate f zero a = refl
map-replicate f (suc n) a = ap (λ t. f a ∷ t) (map-replicate f n a)

pub get_or-replicate-same : {A : Type 0} (n i : ℕ) (a : A) → get_or (replicate n a) i a ≡ a
get_or-replicate-same zero i a = refl
get_or-replicate-same (suc n) zero a = refl
get_or-replicate-same (suc n) (suc i) a = get_or-replicate-same n i a

-- the i-th changes
pub total-set : {A : Type 0} (f : A → ℕ) (l : List A) (i : ℕ) (a d : A) → i < length l → total (map f (set l i a)) + f (get_or l i d) ≡ total (map f l) + f a
total-set f [] i a d h = let z : ⊥ = omega arith in absurd z
total-set f (x ∷ l) zero a d h = omega arith
total-set f (x ∷ l) (suc i) a d h = omega (arith, total-set f l i a d (omega arith))

pub total-covers : {A : Type 0} (f : A → ℕ) (l : List A) (i : ℕ) (d : A) → f d ≡ 0 → f (get_or l i d) ≤ total (map f l)
total-covers f [] i d e = omega arith
total-covers f (x ∷ l) zero d e = omega arith
total-covers f (x ∷ l) (suc i) d e = omega (arith, total-covers f l i d e)

pub total-zeros : (n : ℕ) → total (replicate n 0) ≡ 0
total-zeros zero = refl
total-zeros (suc n) = omega (arith, total-zeros n)

-- what holds of the new i-th and of the old others holds of all
pub at_set : {A : Type 0} (P : A → Type 0) (l : List A) (i j : ℕ) (a d : A) → i < length l → P a → P (get_or l j d) → P (get_or (set l i a) j d)
at_set P l i j a d inside new old = go (eqb j i) refl
  where
    go : (b : Bool) → eqb j i ≡ b → P (get_or (set l i a) j d)
    go true e = rw (eqb-true j i e, get_or-set_same l i a d inside) new
    go false e = rw (get_or-set_other l i j a d (eqb-false j i e)) old
