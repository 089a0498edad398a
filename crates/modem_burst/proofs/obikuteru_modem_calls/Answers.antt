-- `obikuteru_modem_calls`: both ways are the burst.
use Rattle.modem_burst.proofs.obikuteru_modem_calls.Goals as goal
use mathlib.Core.Path.{refl}
use Rattle.std.proofs.Common.{rules}
use Rattle.bursts.proofs.Steps.{fitting}
use Rattle.modem_burst.specs.Burst.{flow_bursts}
use Rattle.modem_burst.proofs.Flows.{of-flow}

pub returns-then-not-fit-clause-value : goal.returns-then-not-fit-clause-value
returns-then-not-fit-clause-value c = rw c.if-not-fit.true refl

pub returns-then-not-fit-clause-answers_after : goal.returns-then-not-fit-clause-answers_after
returns-then-not-fit-clause-answers_after c = rw c.if-not-fit.true refl

pub answer_each-requires-clause-ready : goal.answer_each-requires-clause-ready
answer_each-requires-clause-ready c = c.ready-ahead.ensures c.if-ahead.true

pub answer_each-requires-clause-calls_len : goal.answer_each-requires-clause-calls_len
answer_each-requires-clause-calls_len c = fitting (flow_bursts c.args.flow) c.args.calls.now c.args.answers.now c.if-not-fit.false

pub returns-then-ahead-clause-value : goal.returns-then-ahead-clause-value
returns-then-ahead-clause-value c = rw c.if-not-fit.false refl

pub returns-then-ahead-clause-answers_after : goal.returns-then-ahead-clause-answers_after
returns-then-ahead-clause-answers_after c = rw c.if-not-fit.false (of-flow _ _ _ _ c.answer_each.new.queue.flow _ _ _ (search rules))

pub answer_each-requires-2-clause-calls_len : goal.answer_each-requires-2-clause-calls_len
answer_each-requires-2-clause-calls_len c = fitting (flow_bursts c.args.flow) c.args.calls.now c.args.answers.now c.if-not-fit.false

pub returns-clause-value : goal.returns-clause-value
returns-clause-value c = rw c.if-not-fit.false refl

pub returns-clause-answers_after : goal.returns-clause-answers_after
returns-clause-answers_after c = rw c.if-not-fit.false (of-flow _ _ _ _ c.answer_each-2.new.queue.flow _ _ _ (search rules))
