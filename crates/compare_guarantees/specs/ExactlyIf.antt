-- What the comparison of any two logs answers (Q-11): each answer is given exactly on its ground.
use Rattle.std.specs.Prelude.{◌≡◌, ◌≢◌, ◌↔◌, List, ◌∷◌, ◌++◌, ℕ, ◌+◌, length}
use Rattle.log_codec.specs.declared.Record.{Record}
use Rattle.call_log.specs.Answers.{Answer, given, refused}
use Rattle.call_log.specs.Whole.{Contents, read_whole}
use Rattle.compare.specs.Compare.{Comparison, compare, equal, first_ends, notes_differ, record_differs, refused_first, refused_second}
use Rattle.compare.specs.Compare.{second_ends, settings_differ}

-- n equal records stand before two that are unequal
pub record Unequal (first second : List Record) (n : ℕ) : Type 0 where
  pub shared : List Record
  pub one : Record
  pub other : Record
  pub after_one : List Record
  pub after-other : List Record
  pub in-first : first ≡ shared ++ one ∷ after_one
  pub in-second : second ≡ shared ++ other ∷ after-other
  pub counted : n ≡ length shared
  pub unequal : one ≢ other

-- the longer has all records of the shorter, then so many more, at least one
pub record GoesOn (shorter longer : List Record) (shared remaining : ℕ) : Type 0 where
  pub next : Record
  pub others : List Record
  pub split : longer ≡ shorter ++ next ∷ others
  pub counted : shared ≡ length shorter
  pub left : remaining ≡ 1 + length others

-- the same settings and the same note
abbrev pub Alike : (first second : Contents) → Type 0
Alike a b = (a.header ≡ b.header) × (a.note ≡ b.note)

-- what is so of two logs that read whole, for each answer: settings first, then notes, then records
abbrev pub Grounds : (first second : Contents) → Comparison → Type 0
Grounds a b (refused_first number) = ⊥
Grounds a b (refused_second number) = ⊥
Grounds a b settings_differ = a.header ≢ b.header
Grounds a b notes_differ = (a.header ≡ b.header) × (a.note ≢ b.note)
Grounds a b (record_differs n) = Alike a b × Unequal a.records b.records n
Grounds a b (first_ends shared remaining) = Alike a b × GoesOn a.records b.records shared remaining
Grounds a b (second_ends shared remaining) = Alike a b × GoesOn b.records a.records shared remaining
Grounds a b (equal n) = (a ≡ b) × (n ≡ length a.records)

-- of any two: where the first is refused, that is the answer, whatever the second is; then the second
abbrev pub ReadGrounds : (first second : Answer Contents) → Comparison → Type 0
ReadGrounds (refused number) second answer = answer ≡ refused_first number
ReadGrounds (given a) (refused number) answer = answer ≡ refused_second number
ReadGrounds (given a) (given b) answer = Grounds a b answer

abbrev pub ExactlyIf : Type 0
ExactlyIf =
    (first second : List ℕ) (answer : Comparison) →
    (compare first second ≡ answer) ↔ ReadGrounds (read_whole first) (read_whole second) answer
