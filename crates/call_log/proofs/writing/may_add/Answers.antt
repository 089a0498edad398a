-- `may_add`: the first row whose test holds.
use mathlib.Core.Path.{ap, ◌∙◌, sym}
use mathlib.Core.Bool.{not}
use Rattle.call_log.specs.Writer.{add_refusal}
use Rattle.call_log.proofs.writing.may_add.Goals as goal

pub returns-then-unreached : goal.returns-then-unreached
unfolding add_refusal
returns-then-unreached c = rw (ap not c.if-unreached.true)

pub returns-then-fault : goal.returns-then-fault
unfolding add_refusal
returns-then-fault c = rw (ap not c.if-unreached.false, sym c.faulty-fault.ensures ∙ c.if-fault.true)

pub returns-then-full : goal.returns-then-full
unfolding add_refusal
returns-then-full c = rw (ap not c.if-unreached.false, sym c.faulty-fault.ensures ∙ c.if-fault.false, c.if-full.true)

pub returns : goal.returns
unfolding add_refusal
returns c = rw (ap not c.if-unreached.false, sym c.faulty-fault.ensures ∙ c.if-fault.false, c.if-full.false)
