-- `by_code`: a refusal from 100 on, else the verdict.
use borrow.Author.Tests.{le-leb, lt-leb}
use Rattle.replay.proofs.calling.by_code.Goals as goal

pub returns-then-refused : goal.returns-then-refused
returns-then-refused c = rw (le-leb _ _ c.if-refused.true)

pub returns : goal.returns
returns c = rw (lt-leb _ _ c.if-refused.false)
