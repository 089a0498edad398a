-- Question 2 in general: the ring sheds load by PIE, so its allowances last.
use mathlib.Core.Path.{ap, ◌∙◌}
use native.Mathlib.Omega.{arith}
use Prim.Native.Nat.{ℕ}
use Rattle.pie.specs.declared.Verdict.TheVariants.{Enqueued}
use Rattle.pie_guarantees.specs.AllowanceLasts as general
use Rattle.pie_guarantees.specs.Shedding.{limited}
use Rattle.pie_guarantees.proofs.AllowanceLasts as proved
use Rattle.ring_guarantees.specs.AllowanceLasts.{AllowanceLasts, lasts_until}
use Rattle.ring_guarantees.specs.Calls.{ByLimitsBefore, Entry}
use Rattle.ring.specs.Calls.{Call}
use Rattle.ring_guarantees.proofs.RingSheds.{clock_in, ring-sheds, ring_shedding, tells}

-- an arrival's own numbers, in place of what is read of a call
pub by-limits : (end : ℕ) (a : Entry) → general.ByLimitsBefore ring_shedding end a → ByLimitsBefore end a
by-limits end a limited-before handles sizes clock handle size ecn u v e f l =
    limited-before v (ap tells f) (omega (arith, l, ap clock_in e)) ∙ ap (λ (c : Call). limited ring_shedding a.given c Enqueued) e

pub allowance-lasts : AllowanceLasts
allowance-lasts start calls a m = by-limits (lasts_until start) a (proved.allowance-lasts ring_shedding ring-sheds start calls a m)
