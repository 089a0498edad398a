-- Demand 3 and question 4 for each of two queues: once a crowd has left it, how long does it go on dropping? Over any list of its own
-- calls, from its state in any well-formed records, whatever the other queue does: each call may be given any other state, any shared
-- record and any tables. `RecoversAfter` says what holds wherever the list is cut (crate pie_guarantees): the count is the number that the
-- answers tell, and the last of 1,000 accepted ticks in succession that each found the queue empty returns probability 0 and rules 1 and
-- 2 alone for the next 150,000 microseconds.
use Rattle.std.specs.Prelude.{◌≡◌, true}
use Rattle.pie_guarantees.specs.Recovery.{RecoversAfter}
use Rattle.pair_rules.specs.Queues.{own}
use Rattle.pair_rules.specs.WellFormed.{well_formed}
use Rattle.pair_rules.specs.declared.Pair.{Pair}
use Rattle.pair_rules.specs.declared.Which.{Which}
use Rattle.pair_guarantees.specs.Shedding.{queue_of}

abbrev pub Recovery : Type 0
Recovery = (w : Which) (p : Pair) → well_formed p ≡ true → RecoversAfter (queue_of w) 1000 (own w p)
