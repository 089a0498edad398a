-- `may_begin`: the first row whose test holds.
use mathlib.Core.Path.{◌∙◌, sym}
use borrow.Author.Tests.{le-ltb, lt-ltb}
use Rattle.call_log.specs.Writer.{begin_refusal}
use Rattle.call_log.proofs.writing.may_begin.Goals as goal

pub returns-then-wrong : goal.returns-then-wrong
unfolding begin_refusal
returns-then-wrong c = rw (sym c.header_refused-wrong.ensures ∙ c.if-wrong.true)

pub returns-then-long : goal.returns-then-long
unfolding begin_refusal
returns-then-long c = rw (sym c.header_refused-wrong.ensures ∙ c.if-wrong.false, lt-ltb _ _ c.if-long.true)

pub returns-then-small : goal.returns-then-small
unfolding begin_refusal
returns-then-small c = rw (sym c.header_refused-wrong.ensures ∙ c.if-wrong.false, le-ltb _ _ c.if-long.false, lt-ltb _ _ c.if-small.true)

pub returns : goal.returns
unfolding begin_refusal
returns c = rw (sym c.header_refused-wrong.ensures ∙ c.if-wrong.false, le-ltb _ _ c.if-long.false, le-ltb _ _ c.if-small.false)
