-- What the tests of a list say one by one.
use mathlib.Core.Path.{◌≡◌, refl}
use mathlib.Core.Bool.{Bool, true, false, ◌&&◌, ◌||◌}
use mathlib.Core.List.{List, [], ◌∷◌, foldl}
use Prim.Native.Nat.{ℕ, zero, suc}
use lib.ListN.{get_or}
use Rattle.laws.specs.Tests.{all}
use Rattle.laws.proofs.Tests.{and_left, and_right, or-neither}

-- where a test and those of a list pass, it passes and each of them does
pub first_of : (a : Bool) (tests : List Bool) → foldl ◌&&◌ a tests ≡ true → a ≡ true
first_of a [] e = e
first_of a (t ∷ tests) e = and_left a t (first_of (a && t) tests e)

pub at_from : (a : Bool) (tests : List Bool) → foldl ◌&&◌ a tests ≡ true → (i : ℕ) → get_or tests i true ≡ true
at_from a [] e i = refl
at_from a (t ∷ tests) e zero = and_right a t (first_of (a && t) tests e)
at_from a (t ∷ tests) e (suc i) = at_from (a && t) tests e i

-- where neither a test nor one of a list is true, it is false and each of them is
pub first-not : (a : Bool) (tests : List Bool) → foldl ◌||◌ a tests ≡ false → a ≡ false
first-not a [] e = e
first-not a (t ∷ tests) e = (or-neither a t (first-not (a || t) tests e)).0

pub none_from : (a : Bool) (tests : List Bool) → foldl ◌||◌ a tests ≡ false → (i : ℕ) → get_or tests i false ≡ false
none_from a [] e i = refl
none_from a (t ∷ tests) e zero = (or-neither a t (first-not (a || t) tests e)).1
none_from a (t ∷ tests) e (suc i) = none_from (a || t) tests e i

-- where all pass, each passes
pub all-at : (tests : List Bool) → all tests ≡ true → (i : ℕ) → get_or tests i true ≡ true
all-at tests e i = at_from true tests e i

-- where each passes, all pass
pub at_all : (tests : List Bool) → ((i : ℕ) → get_or tests i true ≡ true) → all tests ≡ true
at_all [] e = refl
at_all (t ∷ tests) e = rw (e 0) (at_all tests (λ i. e (suc i)))

-- a test that cannot be true is false
pub false_of : (b : Bool) → (b ≡ true → ⊥) → false ≡ b
false_of true h = absurd (h refl)
false_of false h = refl
