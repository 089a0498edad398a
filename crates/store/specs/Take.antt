-- 8: the packet at a chain's head leaves it, and its slot is the next one taken.
use Rattle.std.specs.Prelude.{List, ℕ, ◌+◌, ◌*◌, set}
use Rattle.store.specs.Following.{followed}
use Rattle.store.specs.declared.Ends.{Ends}
use Rattle.store.specs.declared.Store.{Store}

-- `freed` becomes the place that was left and spare goes up by one
abbrev pub store_after_take : Store → (place : ℕ) → Store
store_after_take s place = record { used = s.used; freed = place; spare = s.spare + 1 }

-- the head follows and the tail stays
abbrev pub ends_after_take : Ends → (count : ℕ) (sizes : List ℕ) → Ends
ends_after_take e count sizes = record { head = followed sizes e.head count; tail = e.tail }

-- the slot is linked to the last one that was freed; its size is 0 (9), so a damaged chain that leads into it is refused
abbrev pub sizes_after_take : (sizes : List ℕ) (place freed : ℕ) → List ℕ
sizes_after_take sizes place freed = set sizes place (65536 * freed)
