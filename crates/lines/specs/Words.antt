-- The words of a line: what stands between single spaces.
use Rattle.std.specs.Prelude.{Bool, true, false, List, [], ◌∷◌, ℕ, eqb}

-- the first word and the others; a word is empty where two spaces meet, or one begins or ends the line
abbrev pub Words : Type 0
Words = List ℕ × List (List ℕ)

-- the words of a line that begins with this byte, given the words of the rest
abbrev pub parted : (is_space : Bool) (byte : ℕ) → Words → Words
parted true byte words = ([], words.0 ∷ words.1)
parted false byte words = (byte ∷ words.0, words.1)

unfoldable pub words_of : List ℕ → Words
words_of [] = ([], [])
words_of (byte ∷ rest) = parted (eqb byte 32) byte (words_of rest)
