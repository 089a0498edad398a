-- `State::departure`: refused as the check says, else the head's entries and the state that it leaves.
use mathlib.Core.Path.{refl, sym}
use native.Mathlib.Omega.{arith}
use Rattle.std.proofs.lemmas.Result.{err_from_is_err_and}
use Rattle.ring.specs.Departure.{departure}
use Rattle.ring.proofs.Replies.{refused-reply}
use Rattle.ring.proofs.WhenAccepted.{departure-accepted}
use Rattle.ring.proofs.State.departure.Goals as goal

pub returns-in_err-check_departure : goal.returns-in_err-check_departure
unfolding departure
returns-in_err-check_departure c =
    let p = err_from_is_err_and c.from_residual.result c.from_residual.ensures.1 in
    rw (p.1, p.2, ← c.in_err-check_departure.ensures, refused-reply) (refl, refl)

pub offset_bounds-handles-at : goal.offset_bounds-handles-at
offset_bounds-handles-at c =
    let k = departure-accepted _ _ _ _ _ (sym c.in_ok-check_departure.ensures) in
    omega (arith, k.known.first-high, k.known.slots-high)

pub bounds-handles-at : goal.bounds-handles-at
bounds-handles-at c =
    let k = departure-accepted _ _ _ _ _ (sym c.in_ok-check_departure.ensures) in omega (arith, k.known.first-high, k.handles)

pub offset_bounds-sizes-at : goal.offset_bounds-sizes-at
offset_bounds-sizes-at c =
    let k = departure-accepted _ _ _ _ _ (sym c.in_ok-check_departure.ensures) in
    omega (arith, k.known.first-high, k.known.slots-high)

pub bounds-sizes-at : goal.bounds-sizes-at
bounds-sizes-at c =
    let k = departure-accepted _ _ _ _ _ (sym c.in_ok-check_departure.ensures) in omega (arith, k.known.first-high, k.sizes)

pub departed-requires-clause-self_value : goal.departed-requires-clause-self_value
departed-requires-clause-self_value c = (departure-accepted _ _ _ _ _ (sym c.in_ok-check_departure.ensures)).formed

pub departed-requires-clause-clock_le_clock : goal.departed-requires-clause-clock_le_clock
departed-requires-clause-clock_le_clock c =
    let k = departure-accepted _ _ _ _ _ (sym c.in_ok-check_departure.ensures) in
    (k.clock-low, k.some, k.head-fits, k.head-high)

pub returns : goal.returns
unfolding departure
returns c = rw (← c.in_ok-check_departure.ensures, c.departed.ensures) (refl, refl)
