-- `State::arrival`: refused as the check says, else the verdict, what it stores, and the state it leaves.
use mathlib.Core.Path.{sym}
use native.Mathlib.Omega.{arith}
use Rattle.modem_flow.proofs.WhenAccepted.{arrival-accepted}
use Rattle.modem_flow.proofs.State.arrival.Goals as goal

pub decide-decided-requires : goal.decide-decided-requires
decide-decided-requires c =
    let k = arrival-accepted _ _ _ _ _ _ (sym c.in_ok-check_arrival.ensures) in
    record { self_value = k.good; size_le_largest = k.size-high }

pub overflow_cast-size : goal.overflow_cast-size
overflow_cast-size c =
    let k = arrival-accepted _ _ _ _ _ _ (sym c.in_ok-check_arrival.ensures) in
    omega arith

pub store-requires : goal.store-requires
store-requires c =
    let k = arrival-accepted _ _ _ _ _ _ (sym c.in_ok-check_arrival.ensures) in
    record { self_value = k.good; handles_len = (k.handles, k.sizes) }

pub arrived-requires : goal.arrived-requires
arrived-requires c =
    let k = arrival-accepted _ _ _ _ _ _ (sym c.in_ok-check_arrival.ensures) in
    record { self_value = k.good; size_le_largest = k.size-high }
