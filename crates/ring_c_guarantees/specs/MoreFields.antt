-- Four more of the words that the theorems speak of, by the names of struct obikuteru_state (include/obikuteru.h).
use Rattle.std.specs.Prelude.{List, ℕ, get_or}

abbrev pub last_tick_in : (words : List ℕ) → ℕ
last_tick_in w = get_or w 4 0

abbrev pub old_delay_in : (words : List ℕ) → ℕ
old_delay_in w = get_or w 6 0

abbrev pub accumulated_in : (words : List ℕ) → ℕ
accumulated_in w = get_or w 8 0

-- 0: the queue is inactive (Q-12); any other number: it is active
abbrev pub active_in : (words : List ℕ) → ℕ
active_in w = get_or w 22 0
