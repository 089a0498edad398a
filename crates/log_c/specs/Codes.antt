-- What the log's C entries answer, and the words and bytes that they leave.
use Rattle.std.specs.Prelude.{List, [], ◌∷◌, ℕ, zero, suc, ◌+◌, get_or, length, replicate}
use Rattle.log_codec.specs.Headers.{encoded_header}
use Rattle.log_codec.specs.Records.{encoded}
use Rattle.log_codec.specs.declared.Header.{Header}
use Rattle.call_log.specs.Answers.{Answer, Turn, end, given, handed, refused}
use Rattle.call_log.specs.declared.Writer.{Writer}

-- 0 for an accepted call, 100 and the number for a refusal
abbrev pub code_of : (refusal : ℕ) → ℕ
code_of zero = 0
code_of (suc n) = 100 + suc n

-- the writer's state as two words: offset, count
abbrev pub writer_of : (words : List ℕ) → Writer
writer_of words = record { offset = get_or words 0 0; count = get_or words 1 0 }

abbrev pub writer_words : Writer → List ℕ
writer_words w = w.offset ∷ w.count ∷ []

-- a record read, 1 at the end
abbrev pub turn_code : Answer Turn → ℕ
turn_code (refused number) = 100 + number
turn_code (given end) = 1
turn_code (given (handed r next)) = 0

-- the record's 40 bytes, zeros where there is none
abbrev pub turn_bytes : Answer Turn → List ℕ
turn_bytes (refused number) = replicate 40 0
turn_bytes (given end) = replicate 40 0
turn_bytes (given (handed r next)) = encoded r

abbrev pub answer_code : {A : Type 0} → Answer A → ℕ
answer_code (refused number) = 100 + number
answer_code (given a) = 0

-- the settings' 32 bytes, zeros where they are refused
abbrev pub settings_bytes : Answer Header → List ℕ
settings_bytes (refused number) = replicate 32 0
settings_bytes (given h) = encoded_header h

-- a part of lent bytes: its place and its length; an empty one stands at 0
abbrev pub part_words : (from length : ℕ) → List ℕ
part_words from zero = 0 ∷ 0 ∷ []
part_words from (suc n) = from ∷ suc n ∷ []

-- where the note stands
abbrev pub note_words : Answer (List ℕ) → List ℕ
note_words (refused number) = 0 ∷ 0 ∷ []
note_words (given note) = part_words 32 (length note)
