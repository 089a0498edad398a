-- Demand 3 and question 4 for a target of 15,000 or more (Q-13): 300 ticks on an empty queue suffice for all that demand 3
-- says, in both profiles.
use Rattle.std.specs.Prelude.{◌≤◌}
use Rattle.pie_guarantees.specs.Recovery.{RecoversAfter}
use Rattle.pie_guarantees.specs.Shedding.{Shedding, Sheds}

abbrev pub ShorterRecovery : Type 1
ShorterRecovery =
    (k : Shedding) → Sheds k → (start : k.kind.State) → k.Formed start → 15000 ≤ k.target start → RecoversAfter k 300 start
