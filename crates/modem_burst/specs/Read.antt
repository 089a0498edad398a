-- A call that was read from its numbers.
use Rattle.std.specs.Prelude.{Option, Some, None}
use Rattle.modem.specs.Asked.{ask_arrival, ask_departure, ask_tick}
use Rattle.modem_burst.specs.declared.call.Read.{Read}
use Rattle.modem_burst.specs.declared.call.Read.TheVariants.{Arrival, Departure, Tick}
use Rattle.modem_burst.specs.Calls.{Call, asked, unknown}

abbrev pub call_in : Option Read → Call
call_in (Some (Arrival clock packet u)) = asked (ask_arrival clock packet.handle packet.size u)
call_in (Some (Departure clock)) = asked (ask_departure clock)
call_in (Some (Tick clock credits)) = asked (ask_tick clock credits)
call_in None = unknown
