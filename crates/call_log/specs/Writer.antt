-- The writer (Q-1). Its state is the trailer's first two numbers: the bytes are a whole log after every accepted call.
use Rattle.std.specs.Prelude.{Bool, not, ◌||◌, List, [], ◌∷◌, ◌++◌, ℕ, zero, suc, ◌+◌, ◌*◌, leb, ltb, length, Result, ⊤}
use Rattle.std.proofs.lemmas.List.Edits.{sets}
use Rattle.refusals.specs.Rows.{first_refusal}
use Rattle.laws.specs.Tests.{all}
use Rattle.log_codec.specs.Headers.{encoded_header}
use Rattle.log_codec.specs.Records.{encoded}
use Rattle.log_codec.specs.declared.Header.{Header}
use Rattle.log_codec.specs.declared.Record.{Record}
use Rattle.call_log.specs.Answers.{refusal_in}
use Rattle.call_log.specs.Faults.{faulty, header_refused}
use Rattle.call_log.specs.Layout.{length_of, trailer_of}
use Rattle.call_log.specs.declared.Refusal.{Refusal}
use Rattle.call_log.specs.declared.Writer.{Writer}

-- what a call gives: the refusal's number (0: accepted), the writer's state and the bytes
pub record Reply : Type 0 where
  pub refusal : ℕ
  pub writer : Writer
  pub bytes : List ℕ

-- the library's own value, and the writer's state and the bytes as it left them
abbrev pub reply_of : Result ⊤ Refusal → Writer → (bytes : List ℕ) → Reply
reply_of accepted w bytes = record { refusal = refusal_in accepted; writer = w; bytes = bytes }

-- a refusal (a number above 0) returns this state, and the bytes as they were
abbrev pub unless_refused : (number : ℕ) → Writer → (bytes : List ℕ) → Reply → Reply
unless_refused zero w bytes accepted = accepted
unless_refused (suc n) w bytes accepted = record { refusal = suc n; writer = w; bytes = bytes }

-- ── begin ──

abbrev pub begin_refusals : Header → (note_length bytes_length : ℕ) → List (ℕ × Bool)
begin_refusals h note_length bytes_length =
    (12, header_refused h)
    -- a note above 4,096, or no room for settings, note and trailer
    ∷ (14, ltb 4096 note_length || ltb bytes_length (48 + note_length))
    ∷ []

unfoldable pub begin_refusal : Header → (note_length bytes_length : ℕ) → ℕ
begin_refusal h note_length bytes_length = first_refusal (begin_refusals h note_length bytes_length)

-- the all-zero state, which no bytes reach
abbrev pub zero_writer : Writer
zero_writer = record { offset = 0; count = 0 }

-- settings, note and trailer, from the first byte on
unfoldable pub begun : Header → (note bytes : List ℕ) → List ℕ
begun h note bytes = sets bytes 0 (encoded_header h ++ note ++ trailer_of (32 + length note) 0)

unfoldable pub begin : Header → (note bytes : List ℕ) → Reply
begin h note bytes =
    unless_refused (begin_refusal h (length note) (length bytes)) zero_writer bytes
    (record { refusal = 0; writer = record { offset = 32 + length note; count = 0 }; bytes = begun h note bytes })

-- ── add ──

-- a state that can be reached in bytes of this length
abbrev pub writer_conditions : Writer → (bytes_length : ℕ) → List Bool
writer_conditions w bytes_length =
    leb 32 w.offset
    ∷ leb w.offset 4128
    ∷ leb w.count 100000
    ∷ leb (length_of w.offset w.count) bytes_length
    ∷ []

abbrev pub add_refusals : Writer → Record → (bytes_length : ℕ) → List (ℕ × Bool)
add_refusals w r bytes_length =
    (11, not (all (writer_conditions w bytes_length)))
    ∷ (13, faulty r)
    -- a record past 100,000, or no room for it and the trailer
    ∷ (14, leb 100000 w.count || ltb bytes_length (length_of w.offset (w.count + 1)))
    ∷ []

unfoldable pub add_refusal : Writer → Record → (bytes_length : ℕ) → ℕ
add_refusal w r bytes_length = first_refusal (add_refusals w r bytes_length)

-- the record over the old trailer, and the new trailer after it
unfoldable pub added : Writer → Record → (bytes : List ℕ) → List ℕ
added w r bytes = sets bytes (w.offset + 40 * w.count) (encoded r ++ trailer_of w.offset (w.count + 1))

unfoldable pub add : Writer → Record → (bytes : List ℕ) → Reply
add w r bytes =
    unless_refused (add_refusal w r (length bytes)) w bytes
    (record { refusal = 0; writer = record { offset = w.offset; count = w.count + 1 }; bytes = added w r bytes })
