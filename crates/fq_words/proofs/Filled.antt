-- A list whose elements are set to one value, one after the other.
use mathlib.Core.Path.{◌≡◌, ap, sym, ◌∙◌}
use mathlib.Core.List.{List, [], ◌∷◌, ◌++◌}
use Prim.Native.Nat.{ℕ, ◌+◌, ◌≤◌, ◌<◌}
use native.Mathlib.Numerals.{add-one}
use native.Mathlib.Omega.{arith}
use lib.ListN.{length, replicate, replicate-append-replicate, set, take}
use lib.Seq.{take_all, take-suc-set}

module _ {A : Type 0} (a : A) where
  pub filled_next : (l : List A) (i : ℕ) → i < length l → take i l ≡ replicate i a → take (i + 1) (set l i a) ≡ replicate (i + 1) a
  filled_next l i h e =
      ap (λ n. take n (set l i a)) (add-one i)
      ∙ take-suc-set l i a h
      ∙ ap (λ (m : List A). m ++ a ∷ []) e
      ∙ replicate-append-replicate i 1 a

  pub filled-all : (l : List A) (i n : ℕ) → length l ≡ n → n ≤ i → i ≤ n → take i l ≡ replicate i a → l ≡ replicate n a
  filled-all l i n long high low e =
      let i-is : i ≡ n = omega arith in
      let past : length l ≤ i = omega arith in
      sym (take_all i l past) ∙ e ∙ ap (λ m. replicate m a) i-is
