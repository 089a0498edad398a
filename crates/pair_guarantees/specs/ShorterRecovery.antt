-- Demand 3 and question 4 for a target of 15,000 or more (Q-13), for each of two queues: 300 ticks on an empty queue suffice for all that
-- demand 3 says.
use Rattle.std.specs.Prelude.{◌≡◌, true, ◌≤◌}
use Rattle.pie_guarantees.specs.Recovery.{RecoversAfter}
use Rattle.pair_rules.specs.Queues.{own}
use Rattle.pair_rules.specs.WellFormed.{well_formed}
use Rattle.pair_rules.specs.declared.Pair.{Pair}
use Rattle.pair_rules.specs.declared.Which.{Which}
use Rattle.pair_guarantees.specs.Shedding.{queue_of}

abbrev pub ShorterRecovery : Type 0
ShorterRecovery =
    (w : Which) (p : Pair) → well_formed p ≡ true → 15000 ≤ (own w p).settings.target.0 → RecoversAfter (queue_of w) 300 (own w p)
