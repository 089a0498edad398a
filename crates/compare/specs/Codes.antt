-- What the comparison's C entry answers, and the four words that it leaves: whose, record, and the part's place and length.
use Rattle.std.specs.Prelude.{List, [], ◌∷◌, ℕ, ◌+◌, ◌*◌}
use Rattle.compare.specs.Compare.{Comparison, equal, first_ends, notes_differ, record_differs, refused_first, refused_second, second_ends}
use Rattle.compare.specs.Compare.{settings_differ}
use Rattle.compare.specs.Remaining.{last_from}

abbrev pub code_of : Comparison → ℕ
code_of (refused_first number) = 100 + number
code_of (refused_second number) = 100 + number
code_of settings_differ = 1
code_of notes_differ = 2
code_of (record_differs number) = 3
code_of (first_ends shared remaining) = 4
code_of (second_ends shared remaining) = 5
code_of (equal records) = 0

-- 1 is the first log, 2 the second: the one that is refused, or the longer; `first` and `second` are their bytes
abbrev pub words_of : (first second : List ℕ) → Comparison → List ℕ
words_of first second (refused_first number) = 1 ∷ 0 ∷ 0 ∷ 0 ∷ []
words_of first second (refused_second number) = 2 ∷ 0 ∷ 0 ∷ 0 ∷ []
words_of first second settings_differ = 0 ∷ 0 ∷ 0 ∷ 0 ∷ []
words_of first second notes_differ = 0 ∷ 0 ∷ 0 ∷ 0 ∷ []
words_of first second (record_differs number) = 0 ∷ number ∷ 0 ∷ 0 ∷ []
words_of first second (first_ends shared remaining) = 2 ∷ shared ∷ last_from second remaining ∷ 40 * remaining ∷ []
words_of first second (second_ends shared remaining) = 1 ∷ shared ∷ last_from first remaining ∷ 40 * remaining ∷ []
words_of first second (equal records) = 0 ∷ records ∷ 0 ∷ 0 ∷ []
