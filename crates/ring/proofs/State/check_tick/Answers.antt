-- `State::check_tick`: a well-formed state's last tick is at most its clock.
use mathlib.Core.Path.{sym, ◌∙◌}
use native.Mathlib.Omega.{arith}
use Rattle.ring.proofs.Facts.{facts}
use Rattle.ring.proofs.State.check_tick.Goals as goal

pub overflow_add-self : goal.overflow_add-self
overflow_add-self c =
    let f = facts _ (sym c.well_formed-2.ensures ∙ c.if-not-well_formed.false) in omega (arith, f.last-high, f.clock-high)
