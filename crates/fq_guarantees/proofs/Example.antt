-- The example computes.
use mathlib.Core.Path.{refl}
use Rattle.hash.specs.OneAtATime.{absorb, absorb_all, finish, flow_of, one_at_a_time}
use Rattle.pie.specs.DepartureRate.{rate_after}
use Rattle.pie.specs.DropDecision.{accumulated_after, drop_decision}
use Rattle.pie.specs.Verdicts.{raised}
use Rattle.refusals.specs.Tests.{head_refused}
use Rattle.schedule.specs.Choosing.{choose, choose_in, look}
use Rattle.schedule.specs.Entering.{entered}
use Rattle.schedule.specs.Ring.{chosen_in, entered_in, ring_of}
use Rattle.schedule.specs.TwoLists.{occurs}
use Rattle.schedule.specs.WellFormed.{are_flows, every, lists_well, well_listed}
use Rattle.store.specs.Put.{ends_after_put, sizes_after_put, store_after_put}
use Rattle.fq_state.specs.Flow.{flow_with}
use Rattle.fq_state.specs.Fresh.{fresh}
use Rattle.fq_state.specs.WellFormed.{flows_fit, well_formed}
use Rattle.fq_rules.specs.Arrival.{arrival, arrival_refusal, arrived_common, arrived_flow, arrived_schedule, verdict_of}
use Rattle.fq_rules.specs.Departure.{departed_common, departed_flow, departure, departure_refusal}
use Rattle.fq_guarantees.specs.Example.{Example}

pub example : Example
unfolding absorb absorb_all accumulated_after are_flows arrival arrival_refusal arrived_common arrived_flow arrived_schedule choose choose_in
    chosen_in entered_in lists_well
    departed_common departed_flow departure departure_refusal drop_decision ends_after_put entered every finish flow_of flow_with flows_fit fresh
    head_refused look occurs one_at_a_time raised rate_after ring_of sizes_after_put store_after_put verdict_of well_formed well_listed
example = (refl, refl)
