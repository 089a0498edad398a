-- `lent_tick`: a refused call leaves the words; the check finds the rest.
use Rattle.modem_steps.proofs.Entries.{tick-keeps}
use Rattle.modem_steps.proofs.single.lent_tick.Goals as goal

pub returns-in-Err : goal.returns-in-Err
returns-in-Err c =
    let d = c.decode-s.ensures in
    let a = c.in-Err.ensures in
    rw (← d.0) (rw (← a.0) c.code.ensures, tick-keeps _ _ d _ _ _ _ _ a.0, a.2)
