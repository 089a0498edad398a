-- `State::store`: an admitted packet is stored at the tail.
use Rattle.ring.proofs.Facts.{facts}
use Rattle.ring.proofs.State.store.Goals as goal

pub store-requires-clause-first_lt_slots : goal.store-requires-clause-first_lt_slots
store-requires-clause-first_lt_slots c =
    let f = facts c.args.self c.requires.self_value in (f.first-high, f.count-high, f.slots-high)
