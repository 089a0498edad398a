-- Demand 3 and question 4 by the target: the general number of ticks, at the ring's target.
use native.Mathlib.Nat.{le_refl}
use Rattle.pie_guarantees.specs.TicksToRecover.{ticks_to_recover}
use Rattle.pie_guarantees.proofs.TicksToRecover.{reached}
use Rattle.ring.proofs.Facts.{facts}
use Rattle.ring_guarantees.specs.RecoveryByTarget.{RecoveryByTarget}
use Rattle.ring_guarantees.proofs.Recovery.{recovers-after}

pub recovery-by-target : RecoveryByTarget
recovery-by-target start w =
    let target = start.settings.target.0 in
    let f = facts start w in
    recovers-after (ticks_to_recover target) target (reached target f.target-low f.target-high) start w (le_refl target)
