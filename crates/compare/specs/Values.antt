-- What the library's own value says, and what it has found of a log that it read whole.
use Rattle.std.specs.Prelude.{List, ℕ, ◌-◌, drop, take}
use Rattle.log_codec.specs.Headers.{decoded_header}
use Rattle.call_log.specs.Answers.{refusal_number}
use Rattle.call_log.specs.Layout.{records_from}
use Rattle.call_log.specs.Whole.{Contents}
use Rattle.call_log.specs.declared.Writer.{Writer}
use Rattle.compare.specs.Compare.{Comparison, equal, first_ends, notes_differ, record_differs, refused_first, refused_second}
use Rattle.compare.specs.Compare.{second_ends, settings_differ}
use Rattle.compare.specs.declared.Compared.{Compared}
use Rattle.compare.specs.declared.Compared.TheVariants.{RefusedFirst, RefusedSecond, SettingsDiffer, NotesDiffer}
use Rattle.compare.specs.declared.Compared.TheVariants.{RecordDiffers, FirstEnds, SecondEnds, Equal}

abbrev pub comparison_of : Compared → Comparison
comparison_of (RefusedFirst r) = refused_first (refusal_number r)
comparison_of (RefusedSecond r) = refused_second (refusal_number r)
comparison_of SettingsDiffer = settings_differ
comparison_of NotesDiffer = notes_differ
comparison_of (RecordDiffers number) = record_differs number
comparison_of (FirstEnds shared remaining) = first_ends shared remaining
comparison_of (SecondEnds shared remaining) = second_ends shared remaining
comparison_of (Equal records) = equal records

-- the contents of a log with this offset and count
abbrev pub contents_at : (log : List ℕ) (offset count : ℕ) → Contents
contents_at log offset count =
    record { header = decoded_header log 0; note = take (offset - 32) (drop 32 log); records = records_from count log offset }

abbrev pub contents_in : (log : List ℕ) → Writer → Contents
contents_in log w = contents_at log w.offset w.count
