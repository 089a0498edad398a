-- `State::arrived`: an admitted packet enters the backlog.
use native.Mathlib.Omega.{arith}
use Rattle.modem_flow.proofs.Facts.{facts}
use Rattle.modem_flow.proofs.State.arrived.Goals as goal

pub enter-backlog-requires : goal.enter-backlog-requires
enter-backlog-requires c =
    let a = c.before.before.before.before in
    let f = facts a.args.self a.requires.self_value in omega arith
