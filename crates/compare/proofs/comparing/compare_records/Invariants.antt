use mathlib.Core.Path.{◌≡◌}
use Prim.Native.Nat.{◌+◌, ◌*◌, ◌≤◌}
use Rattle.call_log.specs.Layout.{records_from}
use Rattle.compare.specs.Compare.{compare_records}
use Rattle.compare.proofs.InTurn.{from}
use Rattle.compare.proofs.comparing.compare_records.Given as goal

abbrev pub invariant-loop-number : goal.invariant-loop-number
invariant-loop-number l =
    (l.number ≤ l.others)
    × (compare_records 0 (records_from l.count l.first l.offset) (records_from l.others l.second l.offset)
    ≡ from l.first l.second l.count l.others l.number (l.offset + 40 * l.number))
