-- `header_refused` meets its contract.
use Rattle.call_log.specs.Faults.{header_refused}
use Rattle.call_log.proofs.faults.header_refused.Goals as goal

pub returns : goal.returns
unfolding header_refused
returns c = rw c.in_range.ensures
