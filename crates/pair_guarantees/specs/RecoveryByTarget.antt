-- Demand 3 and question 4 by the target (Q-13), for each of two queues: as many ticks on an empty queue as `ticks_to_recover` says of the
-- queue's own target suffice for all that demand 3 says.
use Rattle.std.specs.Prelude.{◌≡◌, true}
use Rattle.pie_guarantees.specs.Recovery.{RecoversAfter}
use Rattle.pie_guarantees.specs.TicksToRecover.{ticks_to_recover}
use Rattle.pair_rules.specs.Queues.{own}
use Rattle.pair_rules.specs.WellFormed.{well_formed}
use Rattle.pair_rules.specs.declared.Pair.{Pair}
use Rattle.pair_rules.specs.declared.Which.{Which}
use Rattle.pair_guarantees.specs.Shedding.{queue_of}

abbrev pub RecoveryByTarget : Type 0
RecoveryByTarget =
    (w : Which) (p : Pair) → well_formed p ≡ true → RecoversAfter (queue_of w) (ticks_to_recover (own w p).settings.target.0) (own w p)
