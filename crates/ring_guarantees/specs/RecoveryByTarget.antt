-- Demand 3 and question 4 by the target (Q-13): as many ticks on an empty queue as `ticks_to_recover` says of the queue's target suffice for
-- all that demand 3 says, in both profiles.
use Rattle.std.specs.Prelude.{◌≡◌, true}
use Rattle.pie_guarantees.specs.TicksToRecover.{ticks_to_recover}
use Rattle.ring.specs.declared.State.{State}
use Rattle.ring.specs.State.{well_formed}
use Rattle.ring_guarantees.specs.Recovery.{RecoversAfter}

abbrev pub RecoveryByTarget : Type 0
RecoveryByTarget = (start : State) → well_formed start ≡ true → RecoversAfter (ticks_to_recover start.settings.target.0) start
