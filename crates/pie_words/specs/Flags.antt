-- A flag as a word.
use Rattle.std.specs.Prelude.{Bool, not, cond, ℕ, eqb}

-- a word that is not 0 says yes
abbrev pub is_set : (word : ℕ) → Bool
is_set word = not (eqb word 0)

-- the word of a flag, written over this one: left as it is where it says so already, else 1 or 0
abbrev pub flag_word : (word : ℕ) (said : Bool) → ℕ
flag_word word said = cond (is_set word) (cond said word 0) (cond said 1 0)
