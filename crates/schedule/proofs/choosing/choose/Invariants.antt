use mathlib.Core.Path.{◌≡◌}
use Prim.Native.Nat.{◌-◌}
use lib.ListN.{length}
use Rattle.schedule.specs.Passing.{found_in}
use Rattle.schedule.specs.Ring.{schedule_of}
use Rattle.schedule.specs.WellFormed.{HoldsFlows}
use Rattle.schedule.proofs.choosing.choose.Given as goal

abbrev pub invariant-loop : goal.invariant-loop
invariant-loop l =
    HoldsFlows l.lists l.order
    × (length l.order ≡ 64)
    × (found_in (l.looks - l.counter) l.counts (schedule_of l.lists l.order l.deficits) ≡ found_in l.looks l.counts (schedule_of l.initial.lists l.initial.order l.initial.deficits))
