-- The words that the theorems speak of, by the names of struct obikuteru_state (include/obikuteru.h).
use Rattle.std.specs.Prelude.{List, ℕ, ◌+◌, get_or}

abbrev pub target_in : (words : List ℕ) → ℕ
target_in w = get_or w 0 0

abbrev pub buffer_in : (words : List ℕ) → ℕ
buffer_in w = get_or w 1 0

abbrev pub slots_in : (words : List ℕ) → ℕ
slots_in w = get_or w 2 0

abbrev pub probability_in : (words : List ℕ) → ℕ
probability_in w = get_or w 5 0

abbrev pub allowance_in : (words : List ℕ) → ℕ
allowance_in w = get_or w 7 0

abbrev pub count_in : (words : List ℕ) → ℕ
count_in w = get_or w 13 0

abbrev pub bytes_in : (words : List ℕ) → ℕ
bytes_in w = get_or w 14 0

abbrev pub first_in : (words : List ℕ) → ℕ
first_in w = get_or w 15 0

-- verdicts[i]
abbrev pub verdicts_in : (words : List ℕ) (i : ℕ) → ℕ
verdicts_in w i = get_or w (16 + i) 0
