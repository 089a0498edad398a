-- The ring stands for the two lists: those that are read off it after a flow enters, or after a choice, are those of rules 25 and 26.
use Rattle.std.specs.Prelude.{◌≡◌, true, false, List, ℕ, ◌<◌, length}
use Rattle.schedule.specs.Choosing.{Move, choose_in, look, moves}
use Rattle.schedule.specs.Entering.{entered, is_listed}
use Rattle.schedule.specs.Ring.{Schedule, chosen_in, entered_in, moved_in, two_lists}
use Rattle.schedule.specs.TwoLists.{TwoLists}
use Rattle.schedule.specs.WellFormed.{lists_fit, well_listed}

-- a ring of 64 places
pub record Ring64 (s : Schedule) : Type 0 where
  pub long : length s.order ≡ 64
  pub fits : lists_fit s.lists ≡ true

-- a ring of 64 places in which these two lists stand
pub record Holds (s : Schedule) (l : TwoLists) : Type 0 where
  pub ring : Ring64 s
  pub reads : two_lists s ≡ l

-- 26: each move
abbrev pub MovesInRing : Type 0
MovesInRing =
    (counts : List ℕ) (s : Schedule) (m : Move) (next : TwoLists) → Ring64 s → look counts (two_lists s) ≡ moves m next →
    Holds (moved_in s m next.deficits) next

-- and so choosing, with any number of looks
abbrev pub ChoosesInRing : Type 0
ChoosesInRing =
    (looks : ℕ) (counts : List ℕ) (s : Schedule) → Ring64 s →
    let c = choose_in looks counts (two_lists s) in Holds (chosen_in s c) c.lists

-- 25
abbrev pub EntersInRing : Type 0
EntersInRing =
    (counts : List ℕ) (s : Schedule) (flow : ℕ) → length s.order ≡ 64 → well_listed counts s ≡ true → flow < 64 →
    is_listed (two_lists s) flow ≡ false → Holds (entered_in s flow) (entered (two_lists s) flow)
