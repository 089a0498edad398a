-- The longest emptying computes, and so does the test of its lists.
use mathlib.Core.Path.{refl}
use Rattle.schedule.specs.Choosing.{choose, choose_in, look}
use Rattle.schedule.specs.TwoLists.{occurs}
use Rattle.schedule.specs.WellFormed.{are_flows, every, lists_well}
use Rattle.schedule_guarantees.specs.LongestEmptying.{LongestEmptying}

pub longest-emptying : LongestEmptying
unfolding choose choose_in look occurs are_flows every lists_well
longest-emptying = (record { counts-long = refl; deficits-long = refl; well = refl }, refl, refl)
