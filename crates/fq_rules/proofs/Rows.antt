-- Rows of the table of refusals, part of them looked at first.
use mathlib.Core.Path.{◌≡◌, refl, sym}
use mathlib.Core.Bool.{Bool, true, false}
use mathlib.Core.Logic.{◌≢◌}
use mathlib.Core.List.{List, [], ◌∷◌, ◌++◌}
use Prim.Native.Nat.{ℕ, ◌<◌}
use native.Mathlib.Omega.{arith}
use borrow.Author.Tests.{ltb-true}
use lib.Dec.{ltb}
use Rattle.laws.proofs.Tests.{and_left, and_right}
use Rattle.refusals.proofs.Ordered.{numbered}
use Rattle.refusals.specs.Numbers.{number_of}
use Rattle.refusals.specs.Rows.{first_refusal}
use Rattle.refusals.specs.declared.Refusal.{Refusal}
use Rattle.refusals.specs.declared.Refusal.TheVariants.{Settings, Malformed, Tables, Clock, TooSoon, Empty, Size, Counts, Head}

pub above : (r : Refusal) → number_of r ≢ 0
above Settings e = absurd (omega arith)
above Malformed e = absurd (omega arith)
above Tables e = absurd (omega arith)
above Clock e = absurd (omega arith)
above TooSoon e = absurd (omega arith)
above Empty e = absurd (omega arith)
above Size e = absurd (omega arith)
above Counts e = absurd (omega arith)
above Head e = absurd (omega arith)

-- a number that the first rows give
pub first-refuses : (rows more : List (ℕ × Bool)) (n : ℕ) → n ≢ 0 → n ≡ first_refusal rows → first_refusal (rows ++ more) ≡ n
first-refuses [] more n h e = absurd (h e)
first-refuses ((number, true) ∷ rows) more n h e = sym e
first-refuses ((number, false) ∷ rows) more n h e = first-refuses rows more n h e

-- where they give none, the others decide
pub none-refuses-yet : (rows more : List (ℕ × Bool)) → numbered rows ≡ true → 0 ≡ first_refusal rows →
    first_refusal (rows ++ more) ≡ first_refusal more
none-refuses-yet [] more n e = refl
none-refuses-yet ((number, true) ∷ rows) more n e =
    let up : 0 < number = ltb-true 0 number (and_left (ltb 0 number) (numbered rows) n) in absurd (omega arith)
none-refuses-yet ((number, false) ∷ rows) more n e = none-refuses-yet rows more (and_right (ltb 0 number) (numbered rows) n) e
