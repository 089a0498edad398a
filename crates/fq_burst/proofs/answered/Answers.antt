-- `answered`: the code of an arrival or a tick is the whole of its word.
use Rattle.fq_burst.proofs.answered.Goals as goal
use mathlib.Core.Path.{refl, ◌∙◌}
use Rattle.fq_burst.proofs.Steps.{departure-small, plain-arrival, plain-tick, tick-stays}

pub word-requires : goal.word-requires
word-requires c =
    let a = c.args in
    let small = departure-small a.common.now a.order.now a.flows.now a.deficits.now a.handles.now a.sizes.now c.in-Some-Departure.clock in
    let e = c.depart-code.ensures.fact in (rw e.0 small.0, rw e.6 small.1, rw e.6 small.2)

pub returns-in-Some-Arrival-clause-fact : goal.returns-in-Some-Arrival-clause-fact
returns-in-Some-Arrival-clause-fact c =
    let asks = rw c.in-Some-Arrival.field-0-is at c.in-Some-Arrival.ensures in
    let e = c.arrive.ensures.fact in
    rw (← asks) (c.from.ensures ∙ e.0 ∙ plain-arrival _ _ _ _ _ c.in-Some-Arrival.handle _ _ _, rw (e.1, e.2, e.3, e.4, e.5, e.6) refl)

pub returns-in-Some-Tick-clause-fact : goal.returns-in-Some-Tick-clause-fact
returns-in-Some-Tick-clause-fact c =
    let a = c.args in
    let asks = rw c.in-Some-Tick.field-0-is at c.in-Some-Tick.ensures in
    let e = c.update.ensures.fact in
    let same = tick-stays a.common.now a.order.now a.flows.now a.deficits.now c.in-Some-Tick.clock in
    rw (← asks) (c.from-in-Some-Tick.ensures ∙ e.0 ∙ plain-tick _ _, rw (e.1, e.2, same.0, same.1) refl)
