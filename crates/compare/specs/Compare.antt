-- Two logs compared (Q-11).
use Rattle.std.specs.Prelude.{Bool, true, false, cond, ◌&&◌, List, [], ◌∷◌, ℕ, ◌+◌, eqb, length}
use Rattle.log_codec.specs.Headers.{header_fields}
use Rattle.log_codec.specs.Records.{fields_of}
use Rattle.log_codec.specs.declared.Header.{Header}
use Rattle.log_codec.specs.declared.Record.{Record}
use Rattle.call_log.specs.Answers.{Answer, given, refused}
use Rattle.call_log.specs.Whole.{Contents, read_whole}

pub data Comparison : Type 0 where
  -- a bad log, by its number, the first log's before the second's
  refused_first : (number : ℕ) → Comparison
  refused_second : (number : ℕ) → Comparison
  settings_differ : Comparison
  notes_differ : Comparison
  -- the number of the first record that differs
  record_differs : (number : ℕ) → Comparison
  -- one log is a proper beginning of the other: so many records are shared, and so many remain of the longer
  first_ends : (shared remaining : ℕ) → Comparison
  second_ends : (shared remaining : ℕ) → Comparison
  equal : (records : ℕ) → Comparison

-- the same numbers in the same order
abbrev pub same : List ℕ → List ℕ → Bool
same [] [] = true
same [] (b ∷ bs) = false
same (a ∷ as₁) [] = false
same (a ∷ as₁) (b ∷ bs) = eqb a b && same as₁ bs

unfoldable pub same_settings : Header → Header → Bool
same_settings a b = same (header_fields a) (header_fields b)

unfoldable pub same_record : Record → Record → Bool
same_record a b = same (fields_of a) (fields_of b)

-- records one after the other, the first of them of this number
abbrev pub compare_records : (number : ℕ) → (first second : List Record) → Comparison
compare_records number [] [] = equal number
compare_records number [] (b ∷ bs) = first_ends number (length (b ∷ bs))
compare_records number (a ∷ as₁) [] = second_ends number (length (a ∷ as₁))
compare_records number (a ∷ as₁) (b ∷ bs) = cond (same_record a b) (compare_records (number + 1) as₁ bs) (record_differs number)

-- settings, then notes, then records: the first that differs is the answer
abbrev pub compare_contents : (first second : Contents) → Comparison
compare_contents a b =
    cond (same_settings a.header b.header)
    (cond (same a.note b.note) (compare_records 0 a.records b.records) notes_differ)
    settings_differ

abbrev pub with_second : Contents → Answer Contents → Comparison
with_second a (refused number) = refused_second number
with_second a (given b) = compare_contents a b

abbrev pub with_first : (first second : Answer Contents) → Comparison
with_first (refused number) second = refused_first number
with_first (given a) second = with_second a second

-- both logs are read whole first
unfoldable pub compare : (first second : List ℕ) → Comparison
compare first second = with_first (read_whole first) (read_whole second)
