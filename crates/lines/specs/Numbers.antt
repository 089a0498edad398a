-- Plain decimal numbers, as a field has them.
use Rattle.std.specs.Prelude.{Bool, true, false, ◌&&◌, ℕ, ◌+◌, ◌-◌, ◌*◌, leb}
use mathlib.Core.List.{List, [], ◌∷◌, foldl}

abbrev pub is_digit : (byte : ℕ) → Bool
is_digit byte = leb 48 byte && leb byte 57

abbrev pub are_digits : List ℕ → Bool
are_digits [] = true
are_digits (byte ∷ rest) = is_digit byte && are_digits rest

-- a plain decimal number: one digit or more, and nothing else
abbrev pub is_number : List ℕ → Bool
is_number [] = false
is_number (byte ∷ rest) = are_digits (byte ∷ rest)

-- the number with one digit more
abbrev pub extended : (number digit : ℕ) → ℕ
extended number digit = 10 * number + (digit - 48)

-- the value of a number; leading zeros add nothing
abbrev pub value_of : List ℕ → ℕ
value_of word = foldl extended 0 word
