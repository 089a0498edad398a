-- A place of the ring by one comparison and one subtraction (Q-4).
use mathlib.Core.Path.{◌≡◌, sym, ◌∙◌}
use mathlib.Core.Logic.{◌⊎◌, inl, inr}
use Prim.Native.Nat.{ℕ, ◌+◌, ◌-◌, ◌%◌, ◌≤◌, ◌<◌}
use native.Mathlib.Nat.{mod-eq_of_lt, mod-eq-sub-mod}
use native.Mathlib.Omega.{arith}

-- for i up to slots it is the remainder: first + i below slots, and that less slots from there on
pub place-is-remainder : (first i slots place : ℕ) → first < slots → i ≤ slots →
    ((first + i < slots) × (place ≡ first + i)) ⊎ ((slots ≤ first + i) × (place ≡ first + i - slots)) → place ≡ (first + i) % slots
place-is-remainder first i slots place hf hi (inl (below, e)) = e ∙ sym (mod-eq_of_lt below)
place-is-remainder first i slots place hf hi (inr (past, e)) =
    let low : first + i - slots < slots = omega arith in e ∙ sym (mod-eq-sub-mod past ∙ mod-eq_of_lt low)
