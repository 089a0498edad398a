-- 25: a flow in neither list is appended to the new list, and its deficit becomes one quantum.
use Rattle.std.specs.Prelude.{Bool, cond, not, [], ◌∷◌, ◌++◌, ℕ, ◌+◌, eqb, set}
use Rattle.schedule.specs.TwoLists.{TwoLists, listed, lists, quantum, zero_deficit}

abbrev pub is_listed : TwoLists → (flow : ℕ) → Bool
is_listed l flow = not (eqb (listed flow l) 0)

unfoldable pub entered : TwoLists → (flow : ℕ) → TwoLists
entered l flow = lists (l.new ++ flow ∷ []) l.old (set l.deficits flow (zero_deficit + quantum))

-- a packet is admitted to a flow: a listed one, even an emptied one, keeps its place and deficit
abbrev pub arrived : TwoLists → (flow : ℕ) → TwoLists
arrived l flow = cond (is_listed l flow) l (entered l flow)
