-- How far early verdicts stand apart: the ring sheds load by PIE, and what its entries add is what the general law counts.
use mathlib.Core.Path.{◌≡◌, refl, ◌∙◌}
use mathlib.Core.List.{List, [], ◌∷◌, ◌++◌}
use native.Mathlib.Omega.{arith}
use Rattle.pie.specs.declared.Verdict.{Verdict}
use Rattle.pie.specs.declared.Verdict.TheVariants.{Enqueued, Marked, DroppedBytes, DroppedSlots, DroppedEarly}
use Rattle.pie_guarantees.specs.Spacing as general
use Rattle.pie_guarantees.proofs.Spacing as proved
use Rattle.refusals.specs.Answer.{Answer, departed, made, refused, ticked, verdict}
use Rattle.ring.specs.declared.State.{State}
use Rattle.ring_guarantees.specs.Calls.{Entry}
use Rattle.ring_guarantees.specs.Spacing.{added, added_at, added_by, is_early_answer}
use Rattle.ring_guarantees.specs.EarlyAtMostApart.{EarlyAtMostApart}
use Rattle.ring_guarantees.specs.EarlyAtLeastApart.{EarlyAtLeastApart}
use Rattle.ring_guarantees.proofs.RingSheds.{ring-sheds, ring_shedding, tells}

early-same : (a : Answer) → general.tells_early (tells a) ≡ is_early_answer a
early-same (refused number) = refl
early-same made = refl
early-same (verdict v) = refl
early-same (departed handle size) = refl
early-same ticked = refl

added-at-same : (s : State) (v : Verdict) → general.added_at ring_shedding s v ≡ added_at s v
added-at-same s Enqueued = refl
added-at-same s Marked = refl
added-at-same s DroppedBytes = refl
added-at-same s DroppedSlots = refl
added-at-same s DroppedEarly = refl

added-by-same : (s : State) (a : Answer) → general.added_by ring_shedding s (tells a) ≡ added_by s a
added-by-same s (refused number) = refl
added-by-same s made = refl
added-by-same s (verdict v) = added-at-same s v
added-by-same s (departed handle size) = refl
added-by-same s ticked = refl

added-same : (entries : List Entry) → general.added ring_shedding entries ≡ added entries
added-same [] = refl
added-same (e ∷ entries) = omega (arith, added-by-same e.given e.answer, added-same entries)

pub early-at-least-apart : EarlyAtLeastApart
early-at-least-apart start calls before first between next later q ef en =
    omega (
      arith,
      added-same (between ++ next ∷ []),
      proved.early-at-least-apart ring_shedding ring-sheds start calls before first between next later q
          (early-same first.answer ∙ ef) (early-same next.answer ∙ en),
    )

pub early-at-most-apart : EarlyAtMostApart
early-at-most-apart start calls before between later w q none =
    omega (
      arith,
      added-same between,
      proved.early-at-most-apart ring_shedding ring-sheds start calls before between later w q
          (λ a m. (early-same a.answer ∙ (none a m).0, (none a m).1)),
    )
