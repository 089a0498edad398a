-- `obikuteru_pair_calls`: lengths that fit, and then all calls on the words of both queues.
use mathlib.Core.Path.{refl}
use Rattle.std.proofs.Common.{rules}
use Rattle.bursts.proofs.Steps.{fitting}
use Rattle.pair_burst.specs.Burst.{pair_bursts}
use Rattle.pair_burst.proofs.obikuteru_pair_calls.Goals as goal

pub returns-then-not-fit-clause-value : goal.returns-then-not-fit-clause-value
returns-then-not-fit-clause-value c = rw c.if-not-fit.true refl

pub returns-then-not-fit-clause-answers_after : goal.returns-then-not-fit-clause-answers_after
returns-then-not-fit-clause-answers_after c = rw c.if-not-fit.true refl

pub answer_each-requires-clause-calls_len : goal.answer_each-requires-clause-calls_len
answer_each-requires-clause-calls_len c = fitting pair_bursts c.args.calls.now c.args.answers.now c.if-not-fit.false

pub answer_each-requires-clause-ready : goal.answer_each-requires-clause-ready
answer_each-requires-clause-ready c = (refl, λ t. c.ready-tested.ensures t)

pub returns-clause-value : goal.returns-clause-value
returns-clause-value c = rw c.if-not-fit.false refl

pub returns-clause-answers_after : goal.returns-clause-answers_after
returns-clause-answers_after c = rw c.if-not-fit.false (search rules)
