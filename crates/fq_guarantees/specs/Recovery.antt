-- Demand 3 and question 4 for each of 64 flows: once a crowd has left it, how long does it go on dropping? Over any list of calls from any
-- well-formed record, whatever the other flows do, and with any tables at each call. The list is read by the flow's own count, the arrivals
-- whose flow it is and the departures that are answered with it (`tells`). `RecoversAfter` says what holds wherever the list is cut (crate
-- pie_guarantees): the count is the number that the answers tell, and the last of 1,000 accepted ticks in succession that each found the
-- flow empty returns probability 0 and, for arrivals whose flow it is, rules 1 and 2 alone for the next 150,000 microseconds.
use Rattle.std.specs.Prelude.{◌≡◌, true, ℕ, ◌<◌}
use Rattle.pie_guarantees.specs.Recovery.{RecoversAfter}
use Rattle.fq_state.specs.WellFormed.{well_formed}
use Rattle.fq_guarantees.specs.Shedding.{flow_queue}
use Rattle.fq_guarantees.specs.SixtyFour.{Record64}

abbrev pub Recovery : Type 0
Recovery = (f : ℕ) (s : Record64) → f < 64 → well_formed s.state ≡ true → RecoversAfter (flow_queue f) 1000 s
