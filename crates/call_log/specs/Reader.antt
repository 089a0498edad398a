-- The reader (Q-1): a log and a place, the next record's number.
use Rattle.std.specs.Prelude.{Bool, cond, not, List, [], ◌∷◌, ℕ, ◌+◌, eqb, leb, length}
use Rattle.std.specs.Borrow.{Bor}
use Rattle.laws.specs.Tests.{all}
use Rattle.log_codec.specs.Numbers.{number_of}
use Rattle.log_codec.specs.declared.Header.{Header}
use Rattle.call_log.specs.Answers.{Answer, Turn, end, given, handed, refused}
use Rattle.call_log.specs.Faults.{faulty, header_refused}
use Rattle.call_log.specs.Layout.{count_in, header_in, length_of, letters, letters_in, note_in, offset_in, record_in, size_in}
use Rattle.call_log.specs.declared.Reader.{Reader}

-- the shortest log, the trailer's numbers in range, its letters, and exactly the length that it gives
abbrev pub trailer_conditions : (log : List ℕ) → List Bool
trailer_conditions l =
    leb 48 (length l)
    ∷ leb 32 (offset_in l)
    ∷ leb (offset_in l) 4128
    ∷ eqb (size_in l) 40
    ∷ leb (count_in l) 100000
    ∷ eqb (letters_in l) (number_of letters)
    ∷ eqb (length l) (length_of (offset_in l) (count_in l))
    ∷ []

-- 11: a bad trailer or length
unfoldable pub trailer_refused : (log : List ℕ) → Bool
trailer_refused l = not (all (trailer_conditions l))

-- what every call of the reader tests first: 11, then 12
abbrev pub if_sound : {A : Type 0} → (log : List ℕ) → Answer A → Answer A
if_sound l answer =
    cond (trailer_refused l) (refused 11)
    (cond (header_refused (header_in l)) (refused 12)
    answer)

-- what stands at a place: the end from the count on, 13 for a record that is reached
unfoldable pub read_at : (log : List ℕ) (place : ℕ) → Answer Turn
read_at l place =
    if_sound l
    (cond (leb (count_in l) place) (given end)
    (cond (faulty (record_in l place)) (refused 13)
    (given (handed (record_in l place) (place + 1)))))

-- the place after that: a refusal or the end leaves it as it was
abbrev pub place_after : Answer Turn → (place : ℕ) → ℕ
place_after (refused number) place = place
place_after (given end) place = place
place_after (given (handed r next)) place = next

-- ── the reader: a log and a place ──

abbrev pub started : (log : Bor (List ℕ)) → Reader
started log = record { log = log; place = 0 }

-- what a call gives
abbrev pub next_of : Reader → Answer Turn
next_of r = read_at r.log.now r.place

-- the reader after it
abbrev pub moved_on : Reader → Reader
moved_on r = record { log = r.log; place = place_after (next_of r) r.place }

-- ── settings and note ──

unfoldable pub settings_of : (log : List ℕ) → Answer Header
settings_of l = if_sound l (given (header_in l))

unfoldable pub note_of : (log : List ℕ) → Answer (List ℕ)
note_of l = if_sound l (given (note_in l))

-- ── the note as a part of the lent bytes ──

-- a part: the block and the place in it, and the bytes
abbrev pub Part : Type 0
Part = (ℕ × ℕ) × List ℕ

-- what a reference refers to
abbrev pub part_of : Bor (List ℕ) → Part
part_of s = (s.ref_ptr, s.now)

-- these bytes, `from` bytes into what a reference refers to: no copy
abbrev pub within : (slice : Bor (List ℕ)) (from : ℕ) (bytes : List ℕ) → Part
within s from bytes = ((s.ref_ptr.0, from + s.ref_ptr.1), bytes)

-- a note where it stands, and an empty part where the log is refused
abbrev pub note_part : (slice : Bor (List ℕ)) → Answer (List ℕ) → Part
note_part s (refused number) = within s 0 []
note_part s (given note) = within s 32 note
