-- The rounds compute.
use mathlib.Core.Path.{refl}
use Rattle.schedule.specs.Choosing.{choose, choose_in, look}
use Rattle.schedule.specs.Entering.{entered}
use Rattle.schedule.specs.TwoLists.{occurs}
use Rattle.schedule.specs.WellFormed.{are_flows, every, lists_well}
use Rattle.schedule_guarantees.specs.Stretch.{after, served}
use Rattle.schedule_guarantees.specs.TwiceAsMuch.{TwiceAsMuch}

pub twice-as-much : TwiceAsMuch
unfolding after served choose choose_in look entered occurs are_flows every lists_well
twice-as-much = (record { counts-long = refl; deficits-long = refl; well = refl }, refl, refl)
