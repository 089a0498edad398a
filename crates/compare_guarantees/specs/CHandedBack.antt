-- The same of the C entry, whose words give the part by place and length (Q-11): 1 or 2 for the longer log, how many records are shared, where
-- the remaining ones begin, and their length; these bytes are the remaining records. Else place and length are 0.
use Rattle.std.specs.Prelude.{◌≡◌, ◌≢◌, List, [], ◌∷◌, ◌++◌, ℕ, ◌+◌, ◌*◌, drop, length, take}
use Rattle.log_codec.specs.Fields.{AreBytes}
use Rattle.log_codec.specs.declared.Record.{Record}
use Rattle.call_log.specs.Answers.{given}
use Rattle.call_log.specs.Whole.{Contents, read_whole}
use Rattle.log_guarantees.specs.AlwaysWhole.{encoded_all}
use Rattle.compare.specs.Codes.{words_of}
use Rattle.compare.specs.Compare.{compare, first_ends, second_ends}
use Rattle.compare_guarantees.specs.ExactlyIf.{Alike}

-- the words of a part that holds these records of a log, after its note and the records before them
pub record Tells (words : List ℕ) (whose : ℕ) (log note : List ℕ) (before rest : List Record) : Type 0 where
  pub told : let from = 32 + length note + 40 * length before in words ≡ whose ∷ length before ∷ from ∷ 40 * length rest ∷ []
  pub stands : let from = 32 + length note + 40 * length before in take (40 * length rest) (drop from log) ≡ encoded_all rest

pub record Words (first second : List ℕ) : Type 0 where
  pub of-second : (a b : Contents) (next : Record) (others : List Record) → AreBytes second →
      read_whole first ≡ given a → read_whole second ≡ given b → Alike a b → b.records ≡ a.records ++ next ∷ others →
      Tells (words_of first second (compare first second)) 2 second a.note a.records (next ∷ others)
  pub of-first : (a b : Contents) (next : Record) (others : List Record) → AreBytes first →
      read_whole first ≡ given a → read_whole second ≡ given b → Alike a b → a.records ≡ b.records ++ next ∷ others →
      Tells (words_of first second (compare first second)) 1 first b.note b.records (next ∷ others)
  pub otherwise :
      ((shared remaining : ℕ) → compare first second ≢ first_ends shared remaining) →
      ((shared remaining : ℕ) → compare first second ≢ second_ends shared remaining) →
      drop 2 (words_of first second (compare first second)) ≡ 0 ∷ 0 ∷ []

abbrev pub CHandedBack : Type 0
CHandedBack = (first second : List ℕ) → Words first second
