-- `lost`: a dropped packet needs no slot.
use Rattle.fq_rules.proofs.deciding.lost.Goals as goal

pub returns-then-admits : goal.returns-then-admits
returns-then-admits c =
    rw (← c.admits-admits.ensures, c.if-admits.true, c.leads_nowhere.ensures)

pub returns : goal.returns
returns c = rw (← c.admits-admits.ensures, c.if-admits.false)
