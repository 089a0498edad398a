-- Demand 3 and question 4 by the target.
use Prim.Native.Nat.{◌≤◌}
use native.Mathlib.Nat.{le_refl}
use Rattle.pie_guarantees.specs.RecoveryByTarget.{RecoveryByTarget}
use Rattle.pie_guarantees.specs.Shedding.{Shedding}
use Rattle.pie_guarantees.specs.TicksToRecover.{ticks_to_recover}
use Rattle.pie_guarantees.proofs.Recovery.{recovers-after}
use Rattle.pie_guarantees.proofs.TicksToRecover.{reached}

pub recovery-by-target : RecoveryByTarget
recovery-by-target k sheds start f l h =
    let target = k.target start in
    recovers-after k sheds (ticks_to_recover target) target (reached target l h) start f (le_refl target)
