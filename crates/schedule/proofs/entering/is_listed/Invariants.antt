use mathlib.Core.Path.{◌≡◌}
use Rattle.schedule.specs.Ring.{ring_of}
use Rattle.schedule.specs.TwoLists.{occurs}
use Rattle.schedule.proofs.entering.is_listed.Given as goal

abbrev pub invariant-loop-i : goal.invariant-loop-i
invariant-loop-i l = occurs l.flow (ring_of l.order l.first l.i) ≡ 0
