-- A log that reads whole reads in turn: the reader's calls give the same settings, note and records, in order, then the end.
use Rattle.std.specs.Prelude.{◌≡◌, List, [], ◌∷◌, ◌++◌, ℕ, zero, suc, ◌+◌, length}
use Rattle.log_codec.specs.declared.Record.{Record}
use Rattle.call_log.specs.Answers.{Answer, Turn, end, given, handed}
use Rattle.call_log.specs.Reader.{note_of, place_after, read_at, settings_of}
use Rattle.call_log.specs.Whole.{Contents, read_whole}

-- n calls of the reader, each at the place that the last one left
abbrev pub answers : (n : ℕ) (log : List ℕ) (place : ℕ) → List (Answer Turn)
answers zero log place = []
answers (suc n) log place = read_at log place ∷ answers n log (place_after (read_at log place) place)

-- each of the records handed out, with the place after it
abbrev pub each_handed : List Record → (place : ℕ) → List (Answer Turn)
each_handed [] place = []
each_handed (r ∷ records) place = given (handed r (place + 1)) ∷ each_handed records (place + 1)

-- the end, n times
abbrev pub ends : (n : ℕ) → List (Answer Turn)
ends zero = []
ends (suc n) = given end ∷ ends n

pub record Reads (log : List ℕ) (c : Contents) : Type 0 where
  pub settings : settings_of log ≡ given c.header
  pub noted : note_of log ≡ given c.note
  -- from the first record on, and however many calls follow
  pub in_order : (more : ℕ) → answers (length c.records + more) log 0 ≡ each_handed c.records 0 ++ ends more

abbrev pub InTurn : Type 0
InTurn = (log : List ℕ) (c : Contents) → read_whole log ≡ given c → Reads log c
