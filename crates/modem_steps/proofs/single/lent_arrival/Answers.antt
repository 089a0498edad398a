-- `lent_arrival`: the words of what the call leaves, or as they were; the code is the answer's.
use Rattle.modem_steps.proofs.Entries.{arrival-keeps, arrival-writes}
use Rattle.modem_steps.proofs.single.lent_arrival.Goals as goal

pub returns-in-Ok : goal.returns-in-Ok
returns-in-Ok c =
    let d = c.decode-s.ensures in
    let a = c.in-Ok.ensures.reply in
    let t = c.in-Ok.ensures.tables in
    rw (← d.0) (
      rw (← a.0) c.place.ensures.0,
      arrival-writes _ _ d _ _ c.args.handles.now c.args.sizes.now _ _ c.args.u _ _ _ a.0 a.1 c.write_arrival.ensures,
      a.2,
      t.0,
      t.1,
    )

pub returns-in-Err : goal.returns-in-Err
returns-in-Err c =
    let d = c.decode-s.ensures in
    let a = c.in-Err.ensures.reply in
    let t = c.in-Err.ensures.tables in
    rw (← d.0) (rw (← a.0) c.code.ensures, arrival-keeps _ _ d _ _ c.args.handles.now c.args.sizes.now _ _ c.args.u _ a.0, a.2, t.0, t.1)
