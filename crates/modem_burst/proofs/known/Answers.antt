-- `known`: each kind of call, of a flow that is one of sixteen.
use Rattle.modem_burst.proofs.known.Goals as goal
use native.Mathlib.Omega.{arith}
use Rattle.modem.specs.Counts.{row_of}
use Rattle.modem_burst.proofs.Within.{arrival-read, arrival-within, departure-within, tick-within}

pub returns-in-Some-Departure : goal.returns-in-Some-Departure
returns-in-Some-Departure c =
    let k = c.in-Some-Departure in
    let e = rw k.field-0-is at k.ensures in
    let d = c.depart.ensures (row_of c.args.counts.now c.args.flow) (omega (arith, c.requires.ready.2)) in
    rw (← e) (departure-within _ _ _ _ _ c.requires.ready.0 _ _ _ d)

pub returns-in-Some-Arrival : goal.returns-in-Some-Arrival
returns-in-Some-Arrival c =
    let k = c.in-Some-Arrival in
    let e = arrival-read c.args.calls.now c.args.at _ _ _ _ (rw k.field-0-is at k.ensures) in
    rw (← e) (arrival-within _ _ _ _ _ c.requires.ready.0 _ _ _ _ _ _ _ _ _ c.arrive.ensures)

pub returns-in-Some-Tick : goal.returns-in-Some-Tick
returns-in-Some-Tick c =
    let k = c.in-Some-Tick in
    let e = rw k.field-0-is at k.ensures in
    let t = rw c.from.ensures at (c.tick.ensures (row_of c.args.counts.now c.args.flow) (omega (arith, c.requires.ready.2))) in
    rw (← e) (tick-within _ _ _ _ _ c.requires.ready.0 _ _ _ _ t)
