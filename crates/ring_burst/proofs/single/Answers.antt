-- `single`: the code of an arrival or a tick is the whole of its word.
use Rattle.ring_burst.proofs.single.Goals as goal
use mathlib.Core.Path.{◌∙◌}
use Rattle.ring_words.specs.Words.{state_of}
use Rattle.ring_steps.proofs.Answers.{departure-small, plain-arrival, plain-tick}

pub word-requires : goal.word-requires
word-requires c =
    let small = departure-small (state_of c.args.w.now) c.args.handles.now c.args.sizes.now c.in-Some-Departure.clock in
    let e = c.obikuteru_departure-code.ensures in
    (rw e.0 small.0, rw e.2 small.1)

pub returns-in-Some-Arrival-clause-value : goal.returns-in-Some-Arrival-clause-value
returns-in-Some-Arrival-clause-value c =
    let e = rw c.in-Some-Arrival.field-0-is at c.in-Some-Arrival.ensures in
    rw (← e) (c.from.ensures ∙ c.obikuteru_arrival.ensures.0 ∙ plain-arrival _ _ _ _ _ _ _)

pub returns-in-Some-Tick-clause-value : goal.returns-in-Some-Tick-clause-value
returns-in-Some-Tick-clause-value c =
    let e = rw c.in-Some-Tick.field-0-is at c.in-Some-Tick.ensures in
    rw (← e) (c.from-in-Some-Tick.ensures ∙ c.obikuteru_tick.ensures.0 ∙ plain-tick _ _)
