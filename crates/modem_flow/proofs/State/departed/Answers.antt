-- `State::departed`: the head leaves, within a well-formed state's ranges.
use Rattle.modem_flow.proofs.Facts.{facts}
use Rattle.modem_flow.proofs.State.departed.Goals as goal

pub place-first-requires : goal.place-first-requires
place-first-requires c =
    let a = c.before.before in
    let f = facts a.args.self a.requires.self_value in (f.first-high, f.slots-low, f.slots-high)
