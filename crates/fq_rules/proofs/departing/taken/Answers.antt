-- `taken`: both totals fall, and a slot is freed.
use Rattle.fq_rules.specs.Departure.{departed_common}
use Rattle.fq_rules.proofs.departing.taken.Goals as goal

pub returns : goal.returns
unfolding departed_common
returns c =
    rw (c.take-store.ensures, c.leave-backlog.ensures)
