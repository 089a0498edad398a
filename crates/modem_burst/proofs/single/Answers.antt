-- `single`: what each single entry promises.
use Rattle.modem_burst.proofs.single.Goals as goal
use mathlib.Core.Path.{◌∙◌}
use Rattle.modem_words.specs.Words.{state_of}
use Rattle.modem_burst.proofs.Steps.{arrival-does, departure-does, departure-small, tick-does}

pub word-requires : goal.word-requires
word-requires c =
    let small = departure-small (state_of c.args.w.now) c.args.counts.now c.args.flow c.args.handles.now c.args.sizes.now c.in-Some-Departure.clock in
    let e = c.lent_departure-code.ensures in
    (rw e.0 small.0, rw e.3 small.1)

pub returns-in-Some-Departure : goal.returns-in-Some-Departure
returns-in-Some-Departure c =
    let k = c.in-Some-Departure in
    let e = rw k.field-0-is at k.ensures in
    let d = c.lent_departure-code.ensures in
    rw (← e) (departure-does _ _ _ _ _ _ _ _ (rw (d.0, d.3) at c.word.ensures, d.1, d.2))

pub returns-in-Some-Arrival : goal.returns-in-Some-Arrival
returns-in-Some-Arrival c =
    let k = c.in-Some-Arrival in
    let e = rw k.field-0-is at k.ensures in
    let a = c.lent_arrival-code.ensures in
    rw (← e) (arrival-does _ _ _ _ _ _ _ _ _ _ _ _ _ _ (c.from.ensures ∙ a.0, a.1, a.2, a.3, a.4))

pub returns-in-Some-Tick : goal.returns-in-Some-Tick
returns-in-Some-Tick c =
    let k = c.in-Some-Tick in
    let e = rw k.field-0-is at k.ensures in
    rw (← e) (tick-does _ _ _ _ _ _ _ _ _ c.single_tick.ensures)
