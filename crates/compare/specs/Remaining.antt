-- The longer log's remaining records, as that part of the caller's bytes (Q-11).
use Rattle.std.specs.Prelude.{List, [], ℕ, ◌*◌, ◌-◌, drop, length, take}
use Rattle.std.specs.Borrow.{Bor}
use Rattle.call_log.specs.Reader.{Part, within}
use Rattle.compare.specs.Compare.{Comparison, compare, equal, first_ends, notes_differ, record_differs, refused_first, refused_second}
use Rattle.compare.specs.Compare.{second_ends, settings_differ}

-- where a log's last records begin: so many, of 40 bytes, before the trailer
abbrev pub last_from : (log : List ℕ) (records : ℕ) → ℕ
last_from log records = length log - 16 - 40 * records

-- their bytes, without the trailer
abbrev pub last_bytes : (log : List ℕ) (records : ℕ) → List ℕ
last_bytes log records = take (40 * records) (drop (last_from log records) log)

-- a part of the log's own memory, no copy
abbrev pub last_of : Bor (List ℕ) → (records : ℕ) → Part
last_of log records = within log (last_from log.now records) (last_bytes log.now records)

-- of the longer log where one is a proper beginning of the other, else empty
abbrev pub part_for : (first second : Bor (List ℕ)) → Comparison → Part
part_for first second (refused_first number) = within first 0 []
part_for first second (refused_second number) = within first 0 []
part_for first second settings_differ = within first 0 []
part_for first second notes_differ = within first 0 []
part_for first second (record_differs number) = within first 0 []
part_for first second (first_ends shared remaining) = last_of second remaining
part_for first second (second_ends shared remaining) = last_of first remaining
part_for first second (equal records) = within first 0 []

unfoldable pub remaining_of : (first second : Bor (List ℕ)) → Part
remaining_of first second = part_for first second (compare first.now second.now)
