-- `known`: the code of an arrival or a tick is the whole of its word.
use Rattle.ring_burst.proofs.known.Goals as goal
use mathlib.Core.Path.{◌∙◌}
use Rattle.ring_steps.proofs.Answers.{plain-arrival, plain-tick}

pub returns-in-Some-Arrival-clause-value : goal.returns-in-Some-Arrival-clause-value
returns-in-Some-Arrival-clause-value c =
    let e = rw c.in-Some-Arrival.field-0-is at c.in-Some-Arrival.ensures in
    rw (← e) (c.arrive.ensures.0 ∙ plain-arrival _ _ _ _ _ _ _)

pub returns-in-Some-Tick-clause-value : goal.returns-in-Some-Tick-clause-value
returns-in-Some-Tick-clause-value c =
    let e = rw c.in-Some-Tick.field-0-is at c.in-Some-Tick.ensures in rw (← e) (c.tick.ensures.0 ∙ plain-tick _ _)
