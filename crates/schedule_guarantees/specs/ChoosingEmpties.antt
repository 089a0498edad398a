-- 26, where no flow has a packet: choosing empties both lists and gives flow 0, after exactly as many moves as the deficits of the listed
-- flows ask for, at most 2,880; with any more looks than moves, or as many, it gives the same.
use Rattle.std.specs.Prelude.{◌≡◌, cond, List, [], ◌∷◌, ℕ, ◌+◌, ◌-◌, ◌/◌, ◌≤◌, get_or, length}
use Rattle.schedule.specs.Choosing.{Choice, choose, choose_in, owes}
use Rattle.schedule.specs.TwoLists.{TwoLists, deficit_of, quantum, zero_deficit}
use Rattle.schedule_guarantees.specs.Kept.{Sound}

-- how many quanta make a flow's deficit not negative
abbrev pub quanta_owed : TwoLists → (flow : ℕ) → ℕ
quanta_owed l flow = (zero_deficit - deficit_of l flow + (quantum - 1)) / quantum

-- a flow of the old list moves once for each quantum, and then leaves
abbrev pub moves_of_old : TwoLists → (flow : ℕ) → ℕ
moves_of_old l flow = quanta_owed l flow + 1

-- one of the new list goes to the old list with its first quantum, or without one if it owes none
abbrev pub moves_of_new : TwoLists → (flow : ℕ) → ℕ
moves_of_new l flow = cond (owes l.deficits flow) (quanta_owed l flow + 1) 2

abbrev pub sum : (f : ℕ → ℕ) → List ℕ → ℕ
sum f [] = 0
sum f (flow ∷ flows) = f flow + sum f flows

abbrev pub moves_to_empty : TwoLists → ℕ
moves_to_empty l = sum (moves_of_new l) l.new + sum (moves_of_old l) l.old

pub record Emptied (c : Choice) : Type 0 where
  pub nobody : c.flow ≡ 0
  pub no-new : c.lists.new ≡ []
  pub no_old : c.lists.old ≡ []

abbrev pub ChoosingEmpties : Type 0
ChoosingEmpties =
    (counts : List ℕ) (l : TwoLists) → Sound counts l → ((flow : ℕ) → get_or counts flow 0 ≡ 0) →
    Emptied (choose counts l)
    × (length (choose counts l).moved ≡ moves_to_empty l)
    × (moves_to_empty l ≤ 2880)
    × ((looks : ℕ) → moves_to_empty l ≤ looks → choose_in looks counts l ≡ choose counts l)
