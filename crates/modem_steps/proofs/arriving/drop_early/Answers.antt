-- `drop_early`: a quiescent flow becomes active, with a full allowance.
use Rattle.modem_steps.proofs.arriving.drop_early.Goals as goal
use Rattle.modem_steps.proofs.Words.{active-words}

pub returns-then-quiescent : goal.returns-then-quiescent
returns-then-quiescent c = let a = c.before.before.before in rw c.if-quiescent.true (active-words a.args.w.now a.requires)
