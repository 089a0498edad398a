-- Which of two flows stands first in a list.
use mathlib.Core.Path.{◌≡◌, refl, sym}
use mathlib.Core.Bool.{Bool, true, false, cond}
use mathlib.Core.List.{List, [], ◌∷◌, ◌++◌}
use Prim.Native.Nat.{ℕ, ◌+◌, ◌≤◌}
use native.Mathlib.Omega.{arith}
use lib.Dec.{eqb}
use borrow.Author.Tests.{eq-eqb, ne_eqb}
use Rattle.schedule.specs.TwoLists.{occurs}

unfoldable pub before : (f g : ℕ) → List ℕ → Bool
before f g [] = false
before f g (x ∷ l) = cond (eqb x f) true (cond (eqb x g) false (before f g l))

module _ (f g : ℕ) where
  pub before_here : (l : List ℕ) → before f g (f ∷ l) ≡ true
  unfolding before
  before_here l = rw (eq-eqb f f refl)

  pub before-there : (l : List ℕ) → (f ≡ g → ⊥) → before f g (g ∷ l) ≡ false
  unfolding before
  before-there l n = rw (ne_eqb g f (λ e. n (sym e)), eq-eqb g g refl)

-- a third flow does not matter
pub before-skip : (f g x : ℕ) (a b : List ℕ) → (x ≡ f → ⊥) → (x ≡ g → ⊥) → before f g (a ++ x ∷ b) ≡ before f g (a ++ b)
unfolding before
before-skip f g x [] b p q = rw (ne_eqb x f p, ne_eqb x g q)
before-skip f g x (y ∷ a) b p q = rw (before-skip f g x a b p q)

-- only g stands in the first part
pub before-second : (f g : ℕ) (a b : List ℕ) → occurs f a ≡ 0 → 1 ≤ occurs g a → before f g (a ++ b) ≡ false
unfolding before occurs
before-second f g [] b z p = absurd (omega arith)
before-second f g (y ∷ a) b z p = go (eqb y f) (eqb y g) z p (before-second f g a b)
  where
    go : (c d : Bool) → cond c 1 0 + occurs f a ≡ 0 → 1 ≤ cond d 1 0 + occurs g a →
        (occurs f a ≡ 0 → 1 ≤ occurs g a → before f g (a ++ b) ≡ false) → cond c true (cond d false (before f g (a ++ b))) ≡ false
    go true d z p next = absurd (omega arith)
    go false true z p next = refl
    go false false z p next = next (omega (arith, z)) (omega (arith, p))

-- only f stands in the first part
pub before-first : (f g : ℕ) (a b : List ℕ) → occurs g a ≡ 0 → 1 ≤ occurs f a → before f g (a ++ b) ≡ true
unfolding before occurs
before-first f g [] b z p = absurd (omega arith)
before-first f g (y ∷ a) b z p = go (eqb y f) (eqb y g) z p (before-first f g a b)
  where
    go : (c d : Bool) → cond d 1 0 + occurs g a ≡ 0 → 1 ≤ cond c 1 0 + occurs f a →
        (occurs g a ≡ 0 → 1 ≤ occurs f a → before f g (a ++ b) ≡ true) → cond c true (cond d false (before f g (a ++ b))) ≡ true
    go true d z p next = refl
    go false true z p next = absurd (omega arith)
    go false false z p next = next (omega (arith, z)) (omega (arith, p))
