-- The parts of a log: 32 bytes of settings, a note, records of 40 bytes, and a trailer of 16.
use Rattle.std.specs.Prelude.{List, [], ◌∷◌, ◌++◌, ℕ, zero, suc, ◌+◌, ◌*◌, ◌-◌, length, take, drop}
use Rattle.log_codec.specs.Headers.{decoded_header}
use Rattle.log_codec.specs.Numbers.{bytes_of, number_of}
use Rattle.log_codec.specs.Records.{decoded}
use Rattle.log_codec.specs.declared.Header.{Header}
use Rattle.log_codec.specs.declared.Record.{Record}

-- the four letters QLOG
abbrev pub letters : List ℕ
letters = 81 ∷ 76 ∷ 79 ∷ 71 ∷ []

-- the trailer: offset of the first record, record count, record size, the four letters
unfoldable pub trailer_of : (offset count : ℕ) → List ℕ
trailer_of offset count = bytes_of 4 offset ++ bytes_of 4 count ++ bytes_of 4 40 ++ letters

-- the length of a log with this offset and count
abbrev pub length_of : (offset count : ℕ) → ℕ
length_of offset count = offset + 40 * count + 16

-- ── what stands in a log ──

-- the trailer's numbers: the last sixteen bytes
abbrev pub offset_in : (log : List ℕ) → ℕ
offset_in l = number_of (take 4 (drop (length l - 16) l))

abbrev pub count_in : (log : List ℕ) → ℕ
count_in l = number_of (take 4 (drop (length l - 12) l))

abbrev pub size_in : (log : List ℕ) → ℕ
size_in l = number_of (take 4 (drop (length l - 8) l))

-- the number that the last four bytes spell
abbrev pub letters_in : (log : List ℕ) → ℕ
letters_in l = number_of (take 4 (drop (length l - 4) l))

abbrev pub header_in : (log : List ℕ) → Header
header_in l = decoded_header l 0

-- offset is 32 plus the note's length
abbrev pub note_in : (log : List ℕ) → List ℕ
note_in l = take (offset_in l - 32) (drop 32 l)

-- the record of this number, from 0 on
abbrev pub record_in : (log : List ℕ) (place : ℕ) → Record
record_in l place = decoded l (offset_in l + 40 * place)

-- n records, one after the other, from `at` on
abbrev pub records_from : (n : ℕ) (bytes : List ℕ) (at : ℕ) → List Record
records_from zero bytes at = []
records_from (suc n) bytes at = decoded bytes at ∷ records_from n bytes (at + 40)

abbrev pub records_in : (log : List ℕ) → List Record
records_in l = records_from (count_in l) l (offset_in l)
