-- A run of the writer: begin, then add for each record of a list, whatever is refused among them, state and bytes handed back untouched.
use Rattle.std.specs.Prelude.{cond, ℕ, eqb, take}
use mathlib.Core.List.{List, [], ◌∷◌, ◌++◌, foldl}
use Rattle.log_codec.specs.Records.{InRange}
use Rattle.log_codec.specs.declared.Header.{Header}
use Rattle.log_codec.specs.declared.Record.{Record}
use Rattle.call_log.specs.Layout.{length_of}
use Rattle.call_log.specs.Writer.{add, begin}
use Rattle.call_log.specs.declared.Writer.{Writer}

pub record Run : Type 0 where
  pub writer : Writer
  pub bytes : List ℕ
  -- the records that were accepted, in order
  pub accepted : List Record

abbrev pub started : Header → (note bytes : List ℕ) → Run
started h note bytes = let b = begin h note bytes in record { writer = b.writer; bytes = b.bytes; accepted = [] }

-- an accepted record is kept, a refused one is not
abbrev pub after : Run → Record → Run
after run r =
    let a = add run.writer r run.bytes in
    record { writer = a.writer; bytes = a.bytes; accepted = run.accepted ++ cond (eqb a.refusal 0) (r ∷ []) [] }

abbrev pub run : Header → (note bytes : List ℕ) → List Record → Run
run h note bytes records = foldl after (started h note bytes) records

-- the log: the bytes up to the trailer's end, by the writer's state
abbrev pub log_of : Run → List ℕ
log_of r = take (length_of r.writer.offset r.writer.count) r.bytes

-- each field of each record fits its width, as it does wherever code holds a record
abbrev pub AllInRange : List Record → Type 0
AllInRange [] = Unit
AllInRange (r ∷ records) = InRange r × AllInRange records
