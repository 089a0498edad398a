use mathlib.Core.Path.{◌≡◌}
use mathlib.Core.Bool.{true}
use lib.ListN.{length}
use Rattle.schedule.specs.Ring.{ring_of}
use Rattle.schedule.specs.WellFormed.{are_flows}
use Rattle.schedule.proofs.Tallied.{Tallied}
use Rattle.schedule.proofs.testing.count_listed.Given as goal

abbrev pub invariant-loop-i : goal.invariant-loop-i
invariant-loop-i l =
    (length l.times ≡ 64) × (are_flows (ring_of l.order l.first l.i) ≡ true) × Tallied l.times (ring_of l.order l.first l.i)
