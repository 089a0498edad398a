-- 7: an admitted packet enters a chain at its tail.
use Rattle.std.specs.Prelude.{cond, List, ℕ, ◌+◌, ◌-◌, ◌*◌, leb, eqb, set}
use Rattle.store.specs.Following.{followed}
use Rattle.store.specs.Words.{size_at}
use Rattle.store.specs.declared.Ends.{Ends}
use Rattle.store.specs.declared.Store.{Store}

-- its place: `freed` if a freed slot is spare, else `used`
abbrev pub free_place : Store → ℕ
free_place s = cond (leb 1 s.spare) s.freed s.used

-- if one was spare, `freed` follows and spare falls by one; else `used` goes up by one
unfoldable pub store_after_put : Store → (sizes : List ℕ) → Store
store_after_put s sizes =
    cond (leb 1 s.spare)
    (record { used = s.used; freed = followed sizes s.freed s.spare; spare = s.spare - 1 })
    (record { used = s.used + 1; freed = s.freed; spare = s.spare })

-- the tail becomes the place, and so does the head if the count was 0
unfoldable pub ends_after_put : Ends → (count place : ℕ) → Ends
ends_after_put e count place = record { head = cond (eqb count 0) place e.head; tail = place }

-- the tables: first, only if the count is 1 or more, the tail's word is linked to the place; then the packet stands at the place
abbrev pub linked : Ends → (count : ℕ) (sizes : List ℕ) (place : ℕ) → List ℕ
linked e count sizes place = cond (leb 1 count) (set sizes e.tail (size_at sizes e.tail + 65536 * place)) sizes

abbrev pub handles_after_put : (handles : List ℕ) (place handle : ℕ) → List ℕ
handles_after_put handles place handle = set handles place handle

unfoldable pub sizes_after_put : Ends → (count : ℕ) (sizes : List ℕ) (place size : ℕ) → List ℕ
sizes_after_put e count sizes place size = set (linked e count sizes place) place size
