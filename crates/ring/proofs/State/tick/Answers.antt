-- `State::tick`: refused as the check says, else the state after it.
use mathlib.Core.Path.{refl, sym}
use Rattle.std.proofs.lemmas.Result.{err_from_is_err_and}
use Rattle.ring.specs.Tick.{tick}
use Rattle.ring.proofs.Replies.{refused-reply}
use Rattle.ring.proofs.WhenAccepted.{tick-accepted}
use Rattle.ring.proofs.State.tick.Goals as goal

pub returns-in_err-check_tick : goal.returns-in_err-check_tick
unfolding tick
returns-in_err-check_tick c =
    let p = err_from_is_err_and c.from_residual.result c.from_residual.ensures.1 in
    rw (p.1, p.2, ← c.in_err-check_tick.ensures, refused-reply) (refl, refl)

pub ticked-requires : goal.ticked-requires
ticked-requires c = (tick-accepted _ _ (sym c.in_ok-check_tick.ensures)).formed

pub returns : goal.returns
unfolding tick
returns c = rw (← c.in_ok-check_tick.ensures, c.ticked.ensures) (refl, refl)
