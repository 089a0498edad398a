-- `Session::later_line`: by the command.
use mathlib.Core.Path.{refl}
use Rattle.script.specs.Answering.{later_line}
use Rattle.script.proofs.Session.later_line.Goals as goal

pub returns-in_default : goal.returns-in_default
unfolding later_line
returns-in_default c = rw c.in_default.is (record { said = c.bad_line.ensures _ _; handles = refl; sizes = refl })

pub returns-in-Arrival : goal.returns-in-Arrival
returns-in-Arrival c = rw (c.in-Some.is, c.in-Arrival.is) c.arrival_line.ensures

pub returns-in-Departure : goal.returns-in-Departure
unfolding later_line
returns-in-Departure c = rw (c.in-Some.is, c.in-Departure.is) (record { said = c.departure_line.ensures; handles = refl; sizes = refl })

pub returns-in-Tick : goal.returns-in-Tick
unfolding later_line
returns-in-Tick c = rw (c.in-Some.is, c.in-Tick.is) (record { said = c.tick_line.ensures _ _; handles = refl; sizes = refl })

pub returns-in-Configure : goal.returns-in-Configure
unfolding later_line
returns-in-Configure c = rw (c.in-Some.is, c.in-Configure.is) (record { said = c.bad_line-in-Configure.ensures _ _; handles = refl; sizes = refl })
