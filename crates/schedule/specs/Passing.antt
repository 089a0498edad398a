-- A look at the ring, and the choosing as far as it writes nothing: what inner functions give. No rule cites it.
use Rattle.std.specs.Prelude.{cond, Option, Some, None, Result, Ok, Err, List, ℕ, ◌+◌, ◌-◌, ltb, get_or}
use Rattle.schedule.specs.Choosing.{Choice, Look, choose_in, moves, nobody, serves}
use Rattle.schedule.specs.Ring.{Schedule, chosen_in, moved_in, place, two_lists}
use Rattle.schedule.specs.declared.Lists.{Lists}

-- the flow that is chosen, and the ring after the moves
pub record Found : Type 0 where
  pub flow : ℕ
  pub schedule : Schedule

abbrev pub found : (flow : ℕ) → Schedule → Found
found flow s = record { flow = flow; schedule = s }

-- what a choice on the lists of a ring leaves in it
abbrev pub found_by : Choice → Schedule → Found
found_by c s = found c.flow (chosen_in s c)

abbrev pub found_in : (looks : ℕ) (counts : List ℕ) → Schedule → Found
found_in looks counts s = found_by (choose_in looks counts (two_lists s)) s

-- the ring after what a look found
abbrev pub after_look : (again : Schedule → Found) → Schedule → Look → Found
after_look again s nobody = found 0 s
after_look again s (serves flow) = found flow s
after_look again s (moves m next) = again (moved_in s m next.deficits)

-- a look ends at a flow, or choosing goes on
abbrev pub found_or : (again : Schedule → Found) → Option ℕ → Schedule → Found
found_or again (Some flow) t = found flow t
found_or again None t = again t

-- the flow, or how many looks are left
abbrev pub passed_to : (counts : List ℕ) → Result ℕ ℕ → Schedule → Found
passed_to counts (Ok flow) t = found flow t
passed_to counts (Err looks) t = found_in looks counts t

-- the heads, where there are any
abbrev pub new_head : Schedule → ℕ
new_head s = get_or s.order (place s.lists.first s.lists.old) 0

abbrev pub old_head : Schedule → ℕ
old_head s = get_or s.order s.lists.first 0

-- the flow that is looked at, where one is listed
abbrev pub head_of : Schedule → ℕ
head_of s = cond (ltb s.lists.old s.lists.listed) (new_head s) (old_head s)

-- where the lists stand once an emptied flow at the head is moved: nothing is written
abbrev pub without_head : Lists → Lists
without_head l =
    cond (ltb l.old l.listed) (record { first = l.first; old = l.old + 1; listed = l.listed })
    (record { first = place l.first 1; old = l.old - 1; listed = l.listed - 1 })
