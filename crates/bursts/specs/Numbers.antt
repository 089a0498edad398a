-- The numbers that every kind of burst shares: 32 bits each in a call, 64 in an answer.
use Rattle.std.specs.Prelude.{List, ℕ, ◌+◌, ◌*◌, get_or}

-- a clock from its halves
abbrev pub clock_of : (low high : ℕ) → ℕ
clock_of low high = low + 4294967296 * high

-- a call's first two numbers are its clock
abbrev pub clock_at : (calls : List ℕ) (at : ℕ) → ℕ
clock_at calls at = clock_of (get_or calls at 0) (get_or calls (at + 1) 0)

-- an answer as a word: its code, then the size and the handle that a departure hands out; 64 flows have their own form (crate fq_burst)
abbrev pub word_of : (code size handle : ℕ) → ℕ
word_of code size handle = code + 65536 * size + 4294967296 * handle
