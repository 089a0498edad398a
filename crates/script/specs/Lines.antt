-- The lines of a script, each without its newline.
use Rattle.std.specs.Prelude.{Bool, true, false, List, [], ◌∷◌, ℕ, eqb}

-- the lines of a script that begins with this byte, given the lines of the rest
abbrev pub joined : (is_newline : Bool) (byte : ℕ) → List (List ℕ) → List (List ℕ)
joined true byte lines = [] ∷ lines
joined false byte [] = (byte ∷ []) ∷ []
joined false byte (line ∷ lines) = (byte ∷ line) ∷ lines

-- a line ends at a newline; the last may lack it, and is none if it is empty then
unfoldable pub lines_of : List ℕ → List (List ℕ)
lines_of [] = []
lines_of (byte ∷ rest) = joined (eqb byte 10) byte (lines_of rest)
