use mathlib.Core.Path.{◌≡◌}
use lib.ListN.{get_or}
use Rattle.schedule.specs.WellFormed.{every, flow_fits}
use Rattle.schedule.proofs.testing.every_flow_fits.Given as goal

abbrev pub invariant-loop-flow : goal.invariant-loop-flow
invariant-loop-flow l = l.fit ≡ every l.flow (λ j. flow_fits (get_or l.times j 0) (get_or l.counts j 0) (get_or l.deficits j 0))
