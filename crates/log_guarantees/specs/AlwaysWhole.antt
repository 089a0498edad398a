-- After begin and after every call of add, whatever was refused, the bytes up to the trailer's end are a whole log with exactly what
-- was accepted.
use Rattle.std.specs.Prelude.{◌≡◌, List, [], ◌∷◌, ◌++◌, ℕ, ◌+◌, drop, length}
use Rattle.log_codec.specs.Headers.{encoded_header}
use Rattle.log_codec.specs.Records.{encoded}
use Rattle.log_codec.specs.declared.Header.{Header}
use Rattle.log_codec.specs.declared.Record.{Record}
use Rattle.call_log.specs.Answers.{given}
use Rattle.call_log.specs.Layout.{length_of, trailer_of}
use Rattle.call_log.specs.Whole.{read_whole}
use Rattle.call_log.specs.Writer.{begin}
use Rattle.log_guarantees.specs.Run.{AllInRange, Run, log_of, run}

-- records, one after the other
abbrev pub encoded_all : List Record → List ℕ
encoded_all [] = []
encoded_all (r ∷ records) = encoded r ++ encoded_all records

-- settings, note, records, trailer
abbrev pub bytes_of : Header → (note : List ℕ) → List Record → List ℕ
bytes_of h note records = encoded_header h ++ note ++ encoded_all records ++ trailer_of (32 + length note) (length records)

pub record Whole (r : Run) (h : Header) (note bytes : List ℕ) : Type 0 where
  -- the log reads whole, with exactly what was accepted
  pub read : read_whole (log_of r) ≡ given (record { header = h; note = note; records = r.accepted })
  -- it is, byte for byte, settings, note, records and trailer
  pub exactly : log_of r ≡ bytes_of h note r.accepted
  -- the lent bytes after it are as they were
  pub beyond : let n = length_of r.writer.offset r.writer.count in drop n r.bytes ≡ drop n bytes

-- a list of records is any run's calls so far
abbrev pub AlwaysWhole : Type 0
AlwaysWhole =
    (h : Header) (note bytes : List ℕ) (records : List Record) → AllInRange records → (begin h note bytes).refusal ≡ 0 →
    Whole (run h note bytes records) h note bytes
