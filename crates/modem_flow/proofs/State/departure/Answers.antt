-- `State::departure`: refused as the check says, else the head is handed out.
use mathlib.Core.Path.{sym}
use native.Mathlib.Omega.{arith}
use Rattle.modem_flow.proofs.WhenAccepted.{departure-accepted}
use Rattle.modem_flow.proofs.State.departure.Goals as goal

pub offset_bounds-handles-at : goal.offset_bounds-handles-at
offset_bounds-handles-at c =
    let k = departure-accepted _ _ _ _ _ _ (sym c.in_ok-check_departure.ensures) in
    omega arith

pub bounds-handles-at : goal.bounds-handles-at
bounds-handles-at c =
    let k = departure-accepted _ _ _ _ _ _ (sym c.in_ok-check_departure.ensures) in
    omega arith

pub offset_bounds-sizes-at : goal.offset_bounds-sizes-at
offset_bounds-sizes-at c =
    let k = departure-accepted _ _ _ _ _ _ (sym c.in_ok-check_departure.ensures) in
    omega arith

pub bounds-sizes-at : goal.bounds-sizes-at
bounds-sizes-at c =
    let k = departure-accepted _ _ _ _ _ _ (sym c.in_ok-check_departure.ensures) in
    omega arith

pub departed-requires : goal.departed-requires
departed-requires c =
    let k = departure-accepted _ _ _ _ _ _ (sym c.in_ok-check_departure.ensures) in
    record { self_value = k.good; count_nonzero = (k.some, k.head-fits) }
