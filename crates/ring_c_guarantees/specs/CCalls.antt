-- A list of C calls, and its trace: each call is given the words that the last one left. What a call answers and leaves is what its entry
-- promises (crates/ring_c/src/lib.rt).
use Rattle.std.specs.Prelude.{◌≡◌, Bool, cond, List, [], ◌∷◌, ℕ, ◌+◌, ◌<◌, eqb, ltb}
use Rattle.ring.specs.Calls.{Call, arrive}
use Rattle.ring_c_guarantees.specs.Fields.{buffer_in, bytes_in, count_in, slots_in}
use Rattle.ring_words.specs.Lent.{code_given, words_left, packet_written}

-- one call of a list, the words that it was given, the number that it answered, the packet that it wrote, and the words that it left
pub record CEntry : Type 0 where
  pub call : Call
  pub given : List ℕ
  pub code : ℕ
  pub packet : List ℕ
  pub returned : List ℕ

abbrev pub c_entry : (words : List ℕ) → Call → CEntry
c_entry w c = record { call = c; given = w; code = code_given w c; packet = packet_written w c; returned = words_left w c }

abbrev pub c_trace : (words : List ℕ) → List Call → List CEntry
c_trace w [] = []
c_trace w (c ∷ cs) = c_entry w c ∷ c_trace (words_left w c) cs

-- 2 if rule 1 holds, else 3 if rule 2 holds, else 0
abbrev pub limits_code : (words : List ℕ) (size : ℕ) → ℕ
limits_code w size = cond (ltb (buffer_in w) (bytes_in w + size)) 2 (cond (eqb (count_in w) (slots_in w)) 3 0)

-- if the entry is an arrival answered below 100 (not refused) with a clock below `end`, rules 1 and 2 alone decide
abbrev pub CodeByLimitsBefore : (end : ℕ) → CEntry → Type 0
CodeByLimitsBefore end e =
    (handles sizes : List ℕ) (clock handle size : ℕ) (ecn : Bool) (u : ℕ) →
    e.call ≡ arrive handles sizes clock handle size ecn u → e.code < 100 → clock < end → e.code ≡ limits_code e.given size
