-- Each verdict has a number of its own.
use mathlib.Core.Path.{◌≡◌, refl, ap, sym, ◌∙◌}
use Prim.Native.Nat.{ℕ, zero, suc}
use Rattle.pie.specs.Verdicts.{place_of}
use Rattle.pie.specs.declared.Verdict.{Verdict}
use Rattle.pie.specs.declared.Verdict.TheVariants.{Enqueued, Marked, DroppedBytes, DroppedSlots, DroppedEarly}

abbrev verdict_at : ℕ → Verdict
verdict_at zero = Enqueued
verdict_at (suc zero) = Marked
verdict_at (suc (suc zero)) = DroppedBytes
verdict_at (suc (suc (suc zero))) = DroppedSlots
verdict_at (suc (suc (suc (suc n)))) = DroppedEarly

placed : (v : Verdict) → verdict_at (place_of v) ≡ v
placed Enqueued = refl
placed Marked = refl
placed DroppedBytes = refl
placed DroppedSlots = refl
placed DroppedEarly = refl

pub same_place : (v w : Verdict) → place_of v ≡ place_of w → v ≡ w
same_place v w e = sym (placed v) ∙ ap verdict_at e ∙ placed w
