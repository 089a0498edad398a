use mathlib.Core.Path.{◌≡◌}
use Prim.Native.Nat.{◌-◌}
use Rattle.schedule.specs.Choosing.{choose, most_looks}
use Rattle.schedule.specs.Passing.{found_by, found_in}
use Rattle.schedule.specs.Ring.{schedule_of, two_lists}
use Rattle.schedule.specs.WellFormed.{HoldsFlows}
use Rattle.schedule.proofs.passing.pass.Given as goal

abbrev pub invariant-loop-passed : goal.invariant-loop-passed
invariant-loop-passed l =
    let s = schedule_of l.initial.lists l.order l.deficits in
    HoldsFlows l.lists l.order
    × (found_in (most_looks - l.passed) l.counts (schedule_of l.lists l.order l.deficits) ≡ found_by (choose l.counts (two_lists s)) s)
