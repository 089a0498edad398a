-- `State::store`: an admitted packet is stored at the tail.
use Rattle.modem_flow.proofs.Facts.{facts}
use Rattle.modem_flow.proofs.State.store.Goals as goal

pub store-requires-clause-first_lt_slots : goal.store-requires-clause-first_lt_slots
store-requires-clause-first_lt_slots c =
    let a = c.before.before.before.before.before.before in
    let f = facts a.args.self a.requires.self_value in (f.first-high, f.count-high, f.slots-high)

pub store-requires-clause-handles_len : goal.store-requires-clause-handles_len
store-requires-clause-handles_len c =
    let a = c.before.before.before.before.before.before in
    let f = facts a.args.self a.requires.self_value in a.requires.handles_len
