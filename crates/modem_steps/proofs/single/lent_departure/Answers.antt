-- `lent_departure`: the words of what the call leaves, or as they were; the packet and the code are the answer's.
use mathlib.Core.Path.{refl}
use Rattle.modem_steps.proofs.Entries.{departure-keeps, departure-writes}
use Rattle.modem_steps.proofs.single.lent_departure.Goals as goal

pub returns-in-Ok : goal.returns-in-Ok
returns-in-Ok c =
    let d = c.decode-s.ensures in
    let a = c.in-Ok.ensures in
    rw (← d.0) (rw (← a.0) refl, departure-writes _ _ d _ _ c.args.handles.now c.args.sizes.now _ _ _ _ _ a.0 a.1 c.write_departure.ensures, a.2, rw (← a.0) refl)

pub returns-in-Err : goal.returns-in-Err
returns-in-Err c =
    let d = c.decode-s.ensures in
    let a = c.in-Err.ensures in
    rw (← d.0) (rw (← a.0) c.code.ensures, departure-keeps _ _ d _ _ c.args.handles.now c.args.sizes.now _ _ a.0, a.2, rw (← a.0) refl)
