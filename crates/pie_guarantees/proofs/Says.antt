-- What a test says of a claim: it holds where the test passes, and fails where it does not.
use mathlib.Core.Path.{◌≡◌, refl, sym}
use mathlib.Core.Bool.{Bool, true, false, cond, ◌&&◌, ◌||◌, true≢false}
use mathlib.Core.Logic.{◌⊎◌, inl, inr, ⊎_elim}

-- the test says whether P holds
abbrev pub Says : Bool → Type 0 → Type 0
Says t P = (t ≡ true → P) × (t ≡ false → ¬ P)

pub holds : {t : Bool} {P : Type 0} → Says t P → P → t ≡ true
holds {t = true} says h = refl
holds {t = false} says h = absurd (says.1 refl h)

pub fails : {t : Bool} {P : Type 0} → Says t P → ¬ P → t ≡ false
fails {t = true} says f = absurd (f (says.0 refl))
fails {t = false} says f = refl

pub by-test : {t : Bool} {P A : Type 0} (Q : A → Type 0) (x y : A) → Says t P → (P → Q x) → (¬ P → Q y) → Q (cond t x y)
by-test {t = true} Q x y says h k = h (says.0 refl)
by-test {t = false} Q x y says h k = k (says.1 refl)

pub either-says : {a b : Bool} {P Q : Type 0} → Says a P → Says b Q → Says (a || b) (P ⊎ Q)
either-says {a = true} says also = (λ e. inl (says.0 refl), λ e. absurd (true≢false e))
either-says {a = false} says also = (λ e. inr (also.0 e), λ e. ⊎_elim (says.1 refl) (also.1 e))

pub both_say : {a b : Bool} {P Q : Type 0} → Says a P → Says b Q → Says (a && b) (P × Q)
both_say {a = true} says also = (λ e. (says.0 refl, also.0 e), λ e h. also.1 e h.1)
both_say {a = false} says also = (λ e. absurd (true≢false (sym e)), λ e h. says.1 refl h.0)
