-- A part that is no longer than the whole.
use mathlib.Core.Path.{◌≡◌, refl, sym, ◌∙◌}
use mathlib.Core.Bool.{Bool, true, false}
use mathlib.Core.List.{List, ◌++◌}
use Prim.Native.Nat.{ℕ, ◌≤◌, min}
use native.Mathlib.Omega.{arith}
use borrow.Author.Tests.{leb-false, leb-true}
use lib.Dec.{leb}
use lib.ListN.{drop, drop_of_length-le, length, take}
use lib.Seq.{length-take-le, take_all}

pub joined-up : {a b c d : List ℕ} → a ≡ b → c ≡ d → a ++ c ≡ b ++ d
joined-up p q = λ i. p i ++ q i

pub least-le : (n k l : ℕ) → n ≡ min k l → n ≤ l
least-le n k l e = omega arith

module _ (n k : ℕ) (l : List ℕ) (e : n ≡ min k (length l)) where
  pub lent-count : n ≡ length (take n l)
  lent-count = sym (length-take-le n l (omega arith))

  pub lent-take : take n l ≡ take k l
  lent-take = go (leb k (length l)) refl
    where
      go : (t : Bool) → leb k (length l) ≡ t → take n l ≡ take k l
      go true h = let p = leb-true k (length l) h in let q : n ≡ k = omega arith in rw q
      go false h = let p = leb-false k (length l) h in take_all n l (omega arith) ∙ sym (take_all k l (omega arith))

  pub lent-drop : drop n l ≡ drop k l
  lent-drop = go (leb k (length l)) refl
    where
      go : (t : Bool) → leb k (length l) ≡ t → drop n l ≡ drop k l
      go true h = let p = leb-true k (length l) h in let q : n ≡ k = omega arith in rw q
      go false h =
          let p = leb-false k (length l) h in
          let short : length l ≤ n = omega arith in
          let short' : length l ≤ k = omega arith in
          drop_of_length-le l short ∙ sym (drop_of_length-le l short')
