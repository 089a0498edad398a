-- `State::check_tick`: a well-formed record's last tick is below its clock.
use mathlib.Core.Path.{sym, ◌∙◌}
use native.Mathlib.Omega.{arith}
use Rattle.modem_flow.proofs.Facts.{facts, record-formed}
use Rattle.modem_flow.proofs.State.check_tick.Goals as goal

pub overflow_add-self : goal.overflow_add-self
overflow_add-self c =
    let f = facts _ (record-formed _ _ (sym c.well_formed-2.ensures ∙ c.if-not-well_formed.false)) in omega arith
