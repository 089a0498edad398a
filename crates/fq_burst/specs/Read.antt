-- A call that was read from its numbers.
use Rattle.std.specs.Prelude.{Option, Some, None}
use Rattle.fq_guarantees.specs.Handed.{ask_arrival, ask_departure, ask_tick}
use Rattle.fq_burst.specs.declared.call.Read.{Read}
use Rattle.fq_burst.specs.declared.call.Read.TheVariants.{Arrival, Departure, Tick}
use Rattle.fq_burst.specs.Calls.{Call, asked, unknown}

abbrev pub call_in : Option Read → Call
call_in (Some (Arrival clock key handle size ecn u)) = asked (ask_arrival clock key handle size ecn u)
call_in (Some (Departure clock)) = asked (ask_departure clock)
call_in (Some (Tick clock)) = asked (ask_tick clock)
call_in None = unknown
