-- A call that was read from its numbers.
use Rattle.std.specs.Prelude.{Option, Some, None}
use Rattle.calls.specs.Requests.{ask_arrival, ask_departure, ask_tick}
use Rattle.ring_burst.specs.declared.call.Read.{Read}
use Rattle.ring_burst.specs.declared.call.Read.TheVariants.{Arrival, Departure, Tick}
use Rattle.ring_burst.specs.Calls.{Call, asked, unknown}

abbrev pub call_in : Option Read → Call
call_in (Some (Arrival clock handle size ecn u)) = asked (ask_arrival clock handle size ecn u)
call_in (Some (Departure clock)) = asked (ask_departure clock)
call_in (Some (Tick clock)) = asked (ask_tick clock)
call_in None = unknown
