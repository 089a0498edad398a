-- The number of a refusal is small, so that the parts of an answer's word do not meet.
use mathlib.Core.Path.{◌≡◌}
use mathlib.Core.Bool.{Bool, true, false, ◌&&◌}
use mathlib.Core.List.{List, [], ◌∷◌}
use Prim.Native.Nat.{ℕ, ◌≤◌}
use native.Mathlib.Omega.{arith}
use lib.Dec.{leb}
use borrow.Author.Tests.{leb-true}
use Rattle.laws.proofs.Tests.{and_left, and_right}
use Rattle.refusals.specs.Rows.{first_refusal}

-- no number is above 9
abbrev pub lows : List (ℕ × Bool) → Bool
lows [] = true
lows ((number, test) ∷ rows) = leb number 9 && lows rows

pub first-low : (rows : List (ℕ × Bool)) → lows rows ≡ true → first_refusal rows ≤ 9
first-low [] e = omega arith
first-low ((number, true) ∷ rows) e = leb-true number 9 (and_left (leb number 9) (lows rows) e)
first-low ((number, false) ∷ rows) e = first-low rows (and_right (leb number 9) (lows rows) e)
