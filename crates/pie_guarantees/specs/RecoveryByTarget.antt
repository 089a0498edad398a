-- Demand 3 and question 4 by the target (Q-13): as many ticks on an empty queue as `ticks_to_recover` says suffice for all that demand 3
-- says, in both profiles.
use Rattle.std.specs.Prelude.{◌≤◌}
use Rattle.pie_guarantees.specs.Recovery.{RecoversAfter}
use Rattle.pie_guarantees.specs.Shedding.{Shedding, Sheds}
use Rattle.pie_guarantees.specs.TicksToRecover.{ticks_to_recover}

abbrev pub RecoveryByTarget : Type 1
RecoveryByTarget =
    (k : Shedding) → Sheds k → (start : k.kind.State) → k.Formed start → 1000 ≤ k.target start → k.target start ≤ 100000 →
    RecoversAfter k (ticks_to_recover (k.target start)) start
