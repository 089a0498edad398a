-- `calls::arrival_lent`: where a verdict is given, its row has room for one more.
use mathlib.Core.Path.{sym}
use native.Mathlib.Omega.{arith}
use borrow.Author.Tests.{ltb-false}
use Rattle.modem_flow.proofs.Replies.{decided}
use Rattle.modem_flow.proofs.WhenAccepted.{arrival-accepted}
use Rattle.modem.proofs.calls.arrival_lent.Goals as goal

pub raise-requires : goal.raise-requires
raise-requires c =
    let k =
    arrival-accepted _ _ _ _ _ _ (decided _ _ c.args.handles.now c.args.sizes.now _ _ c.args.u _ (sym c.in_ok-v.ensures.reply.0)).0 in
    let f = c.in_ok-row.ensures.known in
    (omega (arith, f.0, ltb-false 15 c.args.flow f.1), omega (arith, k.total-low))
