-- The replay of a list of records gives each answer exactly on its ground: accepted where the rules, run over the recorded calls, give each
-- record as it stands, so many records, and the queue after them; else the first record that disagrees, and its first field that does.
use Rattle.std.specs.Prelude.{◌≡◌, ◌↔◌, length}
use mathlib.Core.List.{List}
use Rattle.log_codec.specs.declared.Record.{Record}
use Rattle.ring.specs.Calls.{Queue}
use Rattle.replay.specs.Replay.{Replay, accepted, disagrees, refused as misread, replay_from}
use Rattle.replay_guarantees.specs.ExactlyIf.{AllAgree, FirstWrong, after_all}

-- what is so of the records, for each answer; they are refused on no ground
abbrev pub Grounds : Queue → List Record → Replay → Type 0
Grounds q records (misread number) = ⊥
Grounds q records (accepted n left) = AllAgree q records × (n ≡ length records) × (left ≡ after_all q records)
Grounds q records (disagrees number field a left) = FirstWrong q records number field a left

abbrev pub EachAnswer : Type 0
EachAnswer = (q : Queue) (records : List Record) (answer : Replay) → (replay_from 0 q records ≡ answer) ↔ Grounds q records answer
