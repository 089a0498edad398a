use mathlib.Core.Path.{◌≡◌}
use Prim.Native.Nat.{◌+◌, ◌*◌, ◌-◌}
use Rattle.call_log.specs.Layout.{records_from}
use Rattle.call_log.specs.Whole.{any_faulty}
use Rattle.call_log.proofs.whole.any_faulty.Given as goal

abbrev pub invariant-loop-i : goal.invariant-loop-i
invariant-loop-i l = any_faulty (records_from (l.count - l.i) l.log (l.offset + 40 * l.i)) ≡ any_faulty (records_from l.count l.log l.offset)
