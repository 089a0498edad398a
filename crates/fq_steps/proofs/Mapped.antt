-- A list whose first elements have been mapped, one after the other.
use mathlib.Core.Path.{◌≡◌, refl, ap}
use mathlib.Core.List.{List, [], ◌∷◌, map}
use Prim.Native.Nat.{ℕ, zero, suc, ◌+◌, ◌≤◌, ◌<◌}
use native.Mathlib.Omega.{arith}
use native.Mathlib.Numerals.{add-one}
use lib.ListN.{length, get_or, set}

module _ {A : Type 0} (f : A → A) where
  -- the first n mapped
  unfoldable pub mapped : ℕ → List A → List A
  mapped zero l = l
  mapped (suc n) [] = []
  mapped (suc n) (x ∷ l) = f x ∷ mapped n l

  pub mapped-none : (l : List A) → mapped 0 l ≡ l
  unfolding mapped
  mapped-none l = refl

  pub mapped_at : (d : A) (n : ℕ) (l : List A) → get_or (mapped n l) n d ≡ get_or l n d
  unfolding mapped
  mapped_at d zero l = refl
  mapped_at d (suc n) [] = refl
  mapped_at d (suc n) (x ∷ l) = mapped_at d n l

  set_next : (d : A) (n : ℕ) (l : List A) → n < length l → set (mapped n l) n (f (get_or l n d)) ≡ mapped (suc n) l
  unfolding mapped
  set_next d zero [] h = refl
  set_next d zero (x ∷ l) h = refl
  set_next d (suc n) [] h = refl
  set_next d (suc n) (x ∷ l) h = ap (λ m. f x ∷ m) (set_next d n l (omega arith))

  pub mapped_next : (d : A) (n : ℕ) (l : List A) → n < length l → set (mapped n l) n (f (get_or l n d)) ≡ mapped (n + 1) l
  mapped_next d n l h = rw add-one (set_next d n l h)

  pub mapped-all : (n : ℕ) (l : List A) → length l ≤ n → mapped n l ≡ map f l
  unfolding mapped
  mapped-all zero [] h = refl
  mapped-all zero (x ∷ l) h = absurd (omega arith)
  mapped-all (suc n) [] h = refl
  mapped-all (suc n) (x ∷ l) h = ap (λ m. f x ∷ m) (mapped-all n l (omega arith))
