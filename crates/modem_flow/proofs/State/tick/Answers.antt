-- `State::tick`: refused as the check says, else the state after the tick.
use mathlib.Core.Path.{sym}
use Rattle.modem_flow.proofs.WhenAccepted.{tick-accepted}
use Rattle.modem_flow.proofs.State.tick.Goals as goal

pub ticked-requires : goal.ticked-requires
ticked-requires c = (tick-accepted _ _ _ (sym c.in_ok-check_tick.ensures)).good
