-- How many numbers a reader has read. Its fields are six, as their type says.
use mathlib.Core.Path.{◌≡◌}
use mathlib.Core.List.{[], ◌∷◌, ◌++◌}
use Prim.Native.Nat.{ℕ, ◌+◌, ◌-◌, ◌<◌}
use native.Mathlib.Omega.{arith}
use borrow.Author.Tests.{ne_eqb}
use lib.Dec.{eqb}
use lib.ListN.{length, length-append, length-drop}
use mathlib.Core.Bool.{false}
use Rattle.lines.specs.Reader.{numbers_in}
use Rattle.lines.specs.declared.Reader.{Reader}

pub count-is : (r : Reader) → length r.fields ≡ 6 → length (numbers_in r) ≡ 7 - (6 - r.count)
count-is r six =
    omega (arith, length-drop (6 - r.count) (r.fields ++ (r.value ∷ [])), length-append r.fields (r.value ∷ []), six)

-- a reader with another count of fields before the value than k has not k + 1 numbers
pub count-not : (r : Reader) (k : ℕ) → length r.fields ≡ 6 → k < 6 → (r.count ≡ k → ⊥) → eqb (length (numbers_in r)) (k + 1) ≡ false
count-not r k six h n =
    ne_eqb (length (numbers_in r)) (k + 1) (λ e. let f = count-is r six in n (omega arith))

-- with less than six before the value there are not seven
pub count-below : (r : Reader) → length r.fields ≡ 6 → r.count < 6 → eqb (length (numbers_in r)) 7 ≡ false
count-below r six h = ne_eqb (length (numbers_in r)) 7 (λ e. let f = count-is r six in omega arith)
