-- Which refusal is given, by a call's rows of the table of refusals: each number with its test.
use Rattle.std.specs.Prelude.{Bool, true, cond, ◌≢◌, ℕ, ◌≤◌, ◌<◌}
use mathlib.Core.List.{List, [], ◌∷◌, Memᴰ}

-- the number of the first row whose test holds; 0 where none does, and the call is accepted
abbrev pub first_refusal : List (ℕ × Bool) → ℕ
first_refusal [] = 0
first_refusal ((number, test) ∷ rows) = cond test number (first_refusal rows)

-- the rows' numbers go up, from above `low`
abbrev pub Ascending : (low : ℕ) → List (ℕ × Bool) → Type 0
Ascending low [] = Unit {0}
Ascending low ((number, test) ∷ rows) = (low < number) × Ascending number rows

-- where they do, the number that is given is the lowest whose test holds
pub record LowestGiven (rows : List (ℕ × Bool)) : Type 0 where
  -- the number that is given applies
  pub applies : first_refusal rows ≢ 0 → Memᴰ (first_refusal rows, true) rows
  -- where a number applies, one is given, and it is not higher
  pub lowest : (n : ℕ) → Memᴰ (n, true) rows → (first_refusal rows ≢ 0) × (first_refusal rows ≤ n)

abbrev pub Lowest : Type 0
Lowest = (rows : List (ℕ × Bool)) → Ascending 0 rows → LowestGiven rows
