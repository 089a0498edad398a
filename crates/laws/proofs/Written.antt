-- A list of numbers, written out.
use mathlib.Core.Path.{◌≡◌, refl, ap}
use mathlib.Core.List.{List, [], ◌∷◌}
use Prim.Native.Nat.{ℕ, zero, suc}
use native.Mathlib.Omega.{arith}
use lib.ListN.{get_or, length}

-- f 0, f 1, ..: n of them
abbrev pub listed : ℕ → (ℕ → ℕ) → List ℕ
listed zero f = []
listed (suc n) f = f 0 ∷ listed n (λ i. f (suc i))

pub written_out : (n : ℕ) (w : List ℕ) → length w ≡ n → w ≡ listed n (λ i. get_or w i 0)
written_out zero [] h = refl
written_out zero (x ∷ w) h = absurd (omega arith)
written_out (suc n) [] h = absurd (omega arith)
written_out (suc n) (x ∷ w) h = ap (λ (l : List ℕ). x ∷ l) (written_out n w (omega arith))
