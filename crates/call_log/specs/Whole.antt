-- A log read whole.
use Rattle.std.specs.Prelude.{Bool, false, cond, ◌||◌, List, [], ◌∷◌, ℕ, ◌+◌, length}
use Rattle.log_codec.specs.declared.Header.{Header}
use Rattle.log_codec.specs.declared.Record.{Record}
use Rattle.call_log.specs.Answers.{Answer, given, refused}
use Rattle.call_log.specs.Faults.{faulty}
use Rattle.call_log.specs.Layout.{header_in, note_in, records_in}
use Rattle.call_log.specs.Reader.{if_sound}

pub record Contents : Type 0 where
  pub header : Header
  pub note : List ℕ
  pub records : List Record

-- a record of the list is faulty
abbrev pub any_faulty : List Record → Bool
any_faulty [] = false
any_faulty (r ∷ rs) = faulty r || any_faulty rs

-- 11, then 12, then 13 where any record is faulty
unfoldable pub read_whole : (log : List ℕ) → Answer Contents
read_whole l =
    if_sound l
    (cond (any_faulty (records_in l)) (refused 13)
    (given (record { header = header_in l; note = note_in l; records = records_in l })))

-- offset and count of what was read
abbrev pub shape_in : Answer Contents → Answer (ℕ × ℕ)
shape_in (refused number) = refused number
shape_in (given c) = given (32 + length c.note, length c.records)
