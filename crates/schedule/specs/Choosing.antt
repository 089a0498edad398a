-- 26: choosing looks at the head of the new list, or of the old list where the new one is empty.
use Rattle.std.specs.Prelude.{Bool, cond, List, [], ◌∷◌, ◌++◌, ℕ, zero, suc, ◌+◌, ◌-◌, eqb, ltb, get_or, set}
use Rattle.schedule.specs.TwoLists.{TwoLists, deficit_of, lists, quantum, zero_deficit}

-- the flow at a head goes from the new list to the end of the old one, or from the old list to its end, or it leaves the old list
pub data Move : Type 0 where
  new_goes_old : Move
  old_goes_last : Move
  old_leaves : Move

-- what a look finds: no flow at all, the flow to serve, or a move, after which it looks again
pub data Look : Type 0 where
  nobody : Look
  serves : (flow : ℕ) → Look
  moves : Move → (next : TwoLists) → Look

-- the deficit is negative
abbrev pub owes : (deficits : List ℕ) (flow : ℕ) → Bool
owes deficits flow = ltb (get_or deficits flow 0) zero_deficit

-- counts: how many packets each flow has
abbrev pub has_none : (counts : List ℕ) (flow : ℕ) → Bool
has_none counts flow = eqb (get_or counts flow 0) 0

-- the deficit gains a quantum
abbrev pub raised : (deficits : List ℕ) (flow : ℕ) → List ℕ
raised deficits flow = set deficits flow (get_or deficits flow 0 + quantum)

-- a, b, c, at the head of the new list: an emptied flow goes to the old list too
abbrev pub at_new : (counts : List ℕ) (flow : ℕ) (rest old deficits : List ℕ) → Look
at_new counts flow rest old deficits =
    cond (owes deficits flow) (moves new_goes_old (lists rest (old ++ flow ∷ []) (raised deficits flow)))
    (cond (has_none counts flow) (moves new_goes_old (lists rest (old ++ flow ∷ []) deficits))
    (serves flow))

-- a, b, c, at the head of the old list, where the new one is empty: an emptied flow leaves
abbrev pub at_old : (counts : List ℕ) (flow : ℕ) (rest deficits : List ℕ) → Look
at_old counts flow rest deficits =
    cond (owes deficits flow) (moves old_goes_last (lists [] (rest ++ flow ∷ []) (raised deficits flow)))
    (cond (has_none counts flow) (moves old_leaves (lists [] rest deficits))
    (serves flow))

abbrev pub look_old : (counts deficits old : List ℕ) → Look
look_old counts deficits [] = nobody
look_old counts deficits (flow ∷ rest) = at_old counts flow rest deficits

abbrev pub look_new : (counts deficits old new : List ℕ) → Look
look_new counts deficits old [] = look_old counts deficits old
look_new counts deficits old (flow ∷ rest) = at_new counts flow rest old deficits

unfoldable pub look : (counts : List ℕ) → TwoLists → Look
look counts l = look_new counts l.deficits l.old l.new

-- the flow that is chosen, the lists as they then stand, and the moves that led there
pub record Choice : Type 0 where
  pub flow : ℕ
  pub lists : TwoLists
  pub moved : List Move

abbrev pub chosen : (flow : ℕ) → TwoLists → Choice
chosen flow l = record { flow = flow; lists = l; moved = [] }

abbrev pub led : Move → Choice → Choice
led m c = record { flow = c.flow; lists = c.lists; moved = m ∷ c.moved }

-- with no flow in either list, flow 0
abbrev pub after : (again : TwoLists → Choice) → TwoLists → Look → Choice
after again l nobody = chosen 0 l
after again l (serves flow) = chosen flow l
after again l (moves m next) = led m (again next)

-- at most so many looks; where they are used up, flow 0
unfoldable pub choose_in : (looks : ℕ) (counts : List ℕ) → TwoLists → Choice
choose_in zero counts l = chosen 0 l
choose_in (suc looks) counts l = after (choose_in looks counts) l (look counts l)

-- a deficit of −65,535 takes 44 quanta, and an emptied flow one move more to leave: where one of 64 flows has a packet there are at most
-- 63 × 45 + 44 moves, and then a look that finds the flow to serve
abbrev pub most_looks : ℕ
most_looks = 2880

unfoldable pub choose : (counts : List ℕ) → TwoLists → Choice
choose counts l = choose_in most_looks counts l

-- 27: a departure of this size takes it from the deficit of the flow that is served
abbrev pub charged : TwoLists → (flow size : ℕ) → TwoLists
charged l flow size = lists l.new l.old (set l.deficits flow (deficit_of l flow - size))
