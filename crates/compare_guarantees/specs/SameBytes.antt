-- Two logs are found equal exactly if they are the same bytes (Q-11).
use Rattle.std.specs.Prelude.{◌≡◌, ◌↔◌, List, ℕ, length}
use Rattle.log_codec.specs.Fields.{AreBytes}
use Rattle.call_log.specs.Answers.{given}
use Rattle.call_log.specs.Whole.{Contents, read_whole}
use Rattle.compare.specs.Compare.{compare, equal}

-- bytes, the first of which read whole
abbrev pub SameBytes : Type 0
SameBytes =
    (first second : List ℕ) (a : Contents) → AreBytes first → AreBytes second → read_whole first ≡ given a →
    (compare first second ≡ equal (length a.records)) ↔ (first ≡ second)
