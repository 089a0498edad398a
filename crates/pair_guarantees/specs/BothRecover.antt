-- Demand 3 for each queue in a list of both queues' calls, in any order, wherever its entries are cut (BothQueues: they are the trace of
-- its own calls).
use Rattle.std.specs.Prelude.{◌≡◌, true, List, ◌∷◌, ◌++◌}
use Rattle.calls.specs.Traces.{Entry, trace}
use Rattle.pie_guarantees.specs.Recovery.{RecoveredAfter}
use Rattle.pair_rules.specs.Queues.{own}
use Rattle.pair_rules.specs.WellFormed.{well_formed}
use Rattle.pair_rules.specs.declared.Pair.{Pair}
use Rattle.pair_rules.specs.declared.Which.{Which}
use Rattle.pair_guarantees.specs.Calls.{PairCall, own_calls, pair_calls}
use Rattle.pair_guarantees.specs.Shedding.{queue_of}
use Rattle.pair_guarantees.specs.BothQueues.{own_entries}

abbrev pub BothRecover : Type 0
BothRecover =
    (w : Which) (p : Pair) (calls : List PairCall) →
    (before : List (Entry (own_calls w))) (e : Entry (own_calls w)) (later : List (Entry (own_calls w))) → well_formed p ≡ true →
    own_entries w (trace pair_calls p calls) ≡ before ++ e ∷ later →
    RecoveredAfter (queue_of w) 1000 (own w p).backlog.count before e later
