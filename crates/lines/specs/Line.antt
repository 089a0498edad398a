-- A line, without its newline, read as a command or as bad, of a kind of queue that makes a command of a letter and numbers.
use Rattle.std.specs.Prelude.{Bool, true, cond, ◌&&◌, List, [], ◌∷◌, map, ℕ}
use Rattle.lines.specs.Numbers.{is_number, value_of}
use Rattle.lines.specs.Words.{words_of}

abbrev pub are_numbers : List (List ℕ) → Bool
are_numbers [] = true
are_numbers (word ∷ words) = is_number word && are_numbers words

-- a letter and fields
abbrev pub fields_read : {Command : Type 0} → (bad : Command) (make : ℕ → List ℕ → Command) (letter : ℕ) (fields : List (List ℕ)) → Command
fields_read bad make letter fields = cond (are_numbers fields) (make letter (map value_of fields)) bad

-- a first word and fields: the first word is one letter
abbrev pub words_read : {Command : Type 0} → (bad : Command) (make : ℕ → List ℕ → Command) →
    (first : List ℕ) (fields : List (List ℕ)) → Command
words_read bad make [] fields = bad
words_read bad make (letter ∷ []) fields = fields_read bad make letter fields
words_read bad make (letter ∷ more ∷ rest) fields = bad

abbrev pub line_read : {Command : Type 0} → (bad : Command) (make : ℕ → List ℕ → Command) → List ℕ → Command
line_read bad make line = words_read bad make (words_of line).0 (words_of line).1
