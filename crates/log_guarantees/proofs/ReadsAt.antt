-- What the reader gives of a log whose trailer and settings are right: its settings, its note, and a record that is not faulty.
use mathlib.Core.Path.{◌≡◌}
use mathlib.Core.Bool.{false}
use mathlib.Core.List.{List}
use Prim.Native.Nat.{ℕ, ◌+◌, ◌<◌}
use borrow.Author.Tests.{lt-leb}
use Rattle.call_log.specs.Answers.{given, handed}
use Rattle.call_log.specs.Faults.{faulty, header_refused}
use Rattle.call_log.specs.Layout.{count_in, header_in, note_in, record_in}
use Rattle.call_log.specs.Reader.{note_of, read_at, settings_of, trailer_refused}

module _ (l : List ℕ) (trailer : trailer_refused l ≡ false) (settings : header_refused (header_in l) ≡ false) where
  pub reads-record : (p : ℕ) → p < count_in l → faulty (record_in l p) ≡ false → read_at l p ≡ given (handed (record_in l p) (p + 1))
  unfolding read_at
  reads-record p h f = simp (trailer, settings, lt-leb (count_in l) p h, f)

  pub reads-settings : settings_of l ≡ given (header_in l)
  unfolding settings_of
  reads-settings = simp (trailer, settings)

  pub reads-note : note_of l ≡ given (note_in l)
  unfolding note_of
  reads-note = simp (trailer, settings)
