-- What the number of an answer tells of it.
use mathlib.Core.Path.{◌≡◌, refl, ap}
use mathlib.Core.Bool.{Bool, true, false, cond}
use Prim.Native.Nat.{ℕ, ◌+◌, ◌<◌}
use native.Mathlib.Omega.{arith}
use borrow.Author.Tests.{le-ltb, ne_eqb}
use lib.Dec.{eqb, ltb}
use Rattle.pie.specs.Verdicts.{admitted, place_of}
use Rattle.pie.specs.declared.Verdict.{Verdict}
use Rattle.pie.specs.declared.Verdict.TheVariants.{Enqueued, Marked, DroppedBytes, DroppedSlots, DroppedEarly}
use Rattle.pie.proofs.Counts.{place-lt}
use Rattle.refusals.specs.Answer.{Answer, departed, made, refused, ticked, verdict}
use Rattle.refusals.specs.Codes.{code_of}

-- a refusal's number is none below 100
pub refused-not : (number code : ℕ) → code < 100 → eqb (100 + number) code ≡ false
refused-not number code h = ne_eqb (100 + number) code (λ e. omega arith)

pub refused-not-below : (number code : ℕ) → code < 100 → ltb (100 + number) code ≡ false
refused-not-below number code h = le-ltb (100 + number) code (omega arith)

-- admitted: 0 or 1
pub admitted-below-2 : (v : Verdict) → ltb (place_of v) 2 ≡ admitted v
admitted-below-2 Enqueued = refl
admitted-below-2 Marked = refl
admitted-below-2 DroppedBytes = refl
admitted-below-2 DroppedSlots = refl
admitted-below-2 DroppedEarly = refl

pub same-either-way : {A : Type 0} (t : Bool) (x : A) → cond t x x ≡ x
same-either-way true x = refl
same-either-way false x = refl

-- a number above 100 is a refusal's
pub code-refused : (a : Answer) (number : ℕ) → code_of a ≡ 100 + number → a ≡ refused number
code-refused (refused n) number e = ap refused (omega arith)
code-refused made number e = absurd (omega arith)
code-refused (verdict v) number e = absurd (omega (arith, place-lt v))
code-refused (departed handle size) number e = absurd (omega arith)
code-refused ticked number e = absurd (omega arith)
