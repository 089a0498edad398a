-- Demand 3 and question 4 by the target (Q-13), for each of 64 flows: as many ticks on an empty flow as `ticks_to_recover` says of the
-- record's target suffice for all that demand 3 says.
use Rattle.std.specs.Prelude.{◌≡◌, true, ℕ, ◌<◌}
use Rattle.pie_guarantees.specs.Recovery.{RecoversAfter}
use Rattle.pie_guarantees.specs.TicksToRecover.{ticks_to_recover}
use Rattle.fq_state.specs.WellFormed.{well_formed}
use Rattle.fq_guarantees.specs.Shedding.{flow_queue}
use Rattle.fq_guarantees.specs.SixtyFour.{Record64}

abbrev pub RecoveryByTarget : Type 0
RecoveryByTarget =
    (f : ℕ) (s : Record64) → f < 64 → well_formed s.state ≡ true →
    RecoversAfter (flow_queue f) (ticks_to_recover s.state.common.settings.target.0) s
