-- `counted`: one count rises; where the verdict admits, both totals grow and a slot is taken.
use Rattle.fq_rules.specs.Arrival.{arrived_common}
use Rattle.fq_rules.proofs.arriving.counted.Goals as goal

pub returns-then-admits : goal.returns-then-admits
unfolding arrived_common
returns-then-admits c =
    simp (c.put-store.ensures, c.enter-backlog.ensures, c.raise-verdicts.ensures, ← c.admits-admits.ensures, c.if-admits.true)

pub returns : goal.returns
unfolding arrived_common
returns c =
    simp (c.raise-verdicts.ensures, ← c.admits-admits.ensures, c.if-admits.false)
