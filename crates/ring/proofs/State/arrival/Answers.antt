-- `State::arrival`: refused as the check says, else the verdict, what it stores, and the state it leaves.
use mathlib.Core.Path.{sym}
use native.Mathlib.Omega.{arith}
use Rattle.std.proofs.lemmas.Result.{err_from_is_err_and}
use Rattle.ring.proofs.Replies.{arrival-decided, arrival-refused}
use Rattle.ring.proofs.WhenAccepted.{arrival-accepted}
use Rattle.ring.proofs.State.arrival.Goals as goal

pub returns-in_err-check_arrival-clause-value : goal.returns-in_err-check_arrival-clause-value
returns-in_err-check_arrival-clause-value c =
    let p = err_from_is_err_and c.from_residual.result c.from_residual.ensures.1 in
    rw (p.1, p.2)
    (arrival-refused c.args.self.now c.args.handles.now c.args.sizes.now c.args.clock.0 c.args.handle c.args.size.0 c.args.ecn c.args.u _
    c.in_err-check_arrival.ensures).0

pub returns-in_err-check_arrival-clause-tables : goal.returns-in_err-check_arrival-clause-tables
returns-in_err-check_arrival-clause-tables c =
    (arrival-refused c.args.self.now c.args.handles.now c.args.sizes.now c.args.clock.0 c.args.handle c.args.size.0 c.args.ecn c.args.u _
    c.in_err-check_arrival.ensures).1

pub decide-decided-requires-clause-self_value : goal.decide-decided-requires-clause-self_value
decide-decided-requires-clause-self_value c = (arrival-accepted _ _ _ _ _ (sym c.in_ok-check_arrival.ensures)).formed

pub decide-decided-requires-clause-size_le_largest : goal.decide-decided-requires-clause-size_le_largest
decide-decided-requires-clause-size_le_largest c =
    (arrival-accepted _ _ _ _ _ (sym c.in_ok-check_arrival.ensures)).size-high

pub overflow_cast-size : goal.overflow_cast-size
overflow_cast-size c =
    let k = arrival-accepted _ _ _ _ _ (sym c.in_ok-check_arrival.ensures) in omega (arith, k.size-high)

pub store-requires-clause-self_value : goal.store-requires-clause-self_value
store-requires-clause-self_value c = (arrival-accepted _ _ _ _ _ (sym c.in_ok-check_arrival.ensures)).formed

pub store-requires-clause-handles_len : goal.store-requires-clause-handles_len
store-requires-clause-handles_len c =
    let k = arrival-accepted _ _ _ _ _ (sym c.in_ok-check_arrival.ensures) in (k.handles, k.sizes)

pub arrived-requires-clause-self_value : goal.arrived-requires-clause-self_value
arrived-requires-clause-self_value c = (arrival-accepted _ _ _ _ _ (sym c.in_ok-check_arrival.ensures)).formed

pub arrived-requires-clause-verdicts_bound : goal.arrived-requires-clause-verdicts_bound
arrived-requires-clause-verdicts_bound c =
    let k = arrival-accepted _ _ _ _ _ (sym c.in_ok-check_arrival.ensures) in (k.total-low, k.size-high)

pub returns-clause-value : goal.returns-clause-value
returns-clause-value c =
    (arrival-decided c.args.self.now c.args.handles.now c.args.sizes.now c.args.clock.0 c.args.handle c.args.size.0 c.args.ecn c.args.u _ _
    _ _ c.in_ok-check_arrival.ensures c.decide-decided.ensures.verdict_value c.arrived.ensures
    (c.store.ensures.handles_after, c.store.ensures.sizes_after)).0

pub returns-clause-tables : goal.returns-clause-tables
returns-clause-tables c =
    (arrival-decided c.args.self.now c.args.handles.now c.args.sizes.now c.args.clock.0 c.args.handle c.args.size.0 c.args.ecn c.args.u _ _
    _ _ c.in_ok-check_arrival.ensures c.decide-decided.ensures.verdict_value c.arrived.ensures
    (c.store.ensures.handles_after, c.store.ensures.sizes_after)).1
