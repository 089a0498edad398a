-- What is handed back of the longer log (Q-11): its remaining records, as their bytes, at their place in the caller's bytes; the trailer is
-- no part of them. Where neither log is a proper beginning of the other the part is empty.
use Rattle.std.specs.Prelude.{◌≡◌, ◌≢◌, List, [], ◌∷◌, ◌++◌, ℕ, ◌+◌, ◌*◌, length}
use Rattle.std.specs.Borrow.{Bor}
use Rattle.log_codec.specs.Fields.{AreBytes}
use Rattle.log_codec.specs.declared.Record.{Record}
use Rattle.call_log.specs.Answers.{given}
use Rattle.call_log.specs.Reader.{Part, within}
use Rattle.call_log.specs.Whole.{Contents, read_whole}
use Rattle.log_guarantees.specs.AlwaysWhole.{encoded_all}
use Rattle.compare.specs.Compare.{compare, first_ends, second_ends}
use Rattle.compare.specs.Remaining.{remaining_of}
use Rattle.compare_guarantees.specs.ExactlyIf.{Alike}

-- these records of a log, after its settings, its note and the records before them
abbrev pub after : (log : Bor (List ℕ)) (note : List ℕ) (before rest : List Record) → Part
after log note before rest = within log (32 + length note + 40 * length before) (encoded_all rest)

pub record HandsBack (first second : Bor (List ℕ)) : Type 0 where
  -- both logs read whole, the first is a proper beginning of the second, which is bytes
  pub of-second : (a b : Contents) (next : Record) (others : List Record) → AreBytes second.now →
      read_whole first.now ≡ given a → read_whole second.now ≡ given b → Alike a b → b.records ≡ a.records ++ next ∷ others →
      remaining_of first second ≡ after second a.note a.records (next ∷ others)
  -- the same, the other way round
  pub of-first : (a b : Contents) (next : Record) (others : List Record) → AreBytes first.now →
      read_whole first.now ≡ given a → read_whole second.now ≡ given b → Alike a b → a.records ≡ b.records ++ next ∷ others →
      remaining_of first second ≡ after first b.note b.records (next ∷ others)
  -- neither ends first
  pub otherwise :
      ((shared remaining : ℕ) → compare first.now second.now ≢ first_ends shared remaining) →
      ((shared remaining : ℕ) → compare first.now second.now ≢ second_ends shared remaining) →
      remaining_of first second ≡ within first 0 []

abbrev pub HandedBack : Type 0
HandedBack = (first second : Bor (List ℕ)) → HandsBack first second
