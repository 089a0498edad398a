-- What a call's rows of the table of refusals say of the number that is given.
use mathlib.Core.Path.{◌≡◌, refl, sym, ap, subst, ◌∙◌}
use mathlib.Core.Bool.{Bool, true, false, ◌&&◌, ◌||◌, and-false, or-true, false≢true}
use mathlib.Core.Logic.{◌≢◌}
use mathlib.Core.List.{List, [], ◌∷◌, Memᴰ}
use Prim.Native.Nat.{ℕ, zero, suc, ◌≤◌, ◌<◌}
use native.Mathlib.Omega.{arith}
use borrow.Author.Tests.{eq-eqb, ltb-true}
use lib.Dec.{T, eqb, ltb}
use lib.ListN.{get_or}
use Rattle.laws.proofs.Tests.{and_left, and_right}
use Rattle.refusals.specs.Rows.{Ascending, Lowest, first_refusal}

-- ── where none is given ──

-- every number is above 0
abbrev pub numbered : List (ℕ × Bool) → Bool
numbered [] = true
numbered ((number, test) ∷ rows) = ltb 0 number && numbered rows

-- where no refusal is given, each test is false
pub none-refuses : (rows : List (ℕ × Bool)) → numbered rows ≡ true → first_refusal rows ≡ 0 → (i : ℕ) → (get_or rows i (0, false)).1 ≡ false
none-refuses [] n e i = refl
none-refuses ((number, true) ∷ rows) n e i =
    let above : 0 < number = ltb-true 0 number (and_left (ltb 0 number) (numbered rows) n) in absurd (omega arith)
none-refuses ((number, false) ∷ rows) n e zero = refl
none-refuses ((number, false) ∷ rows) n e (suc i) = none-refuses rows (and_right (ltb 0 number) (numbered rows) n) e i

-- ── the lowest is given ──

numbers-above : (low : ℕ) (rows : List (ℕ × Bool)) (n : ℕ) (test : Bool) → Ascending low rows → Memᴰ (n, test) rows → low < n
numbers-above low [] n test a x'' = elim x'' [ ]
numbers-above low ((number, held) ∷ rows) n test a (Memᴰ.head e) = omega (arith, ap (λ (r : ℕ × Bool). r.0) e)
numbers-above low ((number, held) ∷ rows) n test a (Memᴰ.tail m) = omega (arith, numbers-above number rows n test a.1 m)

first-lowest : (low : ℕ) (rows : List (ℕ × Bool)) (n : ℕ) → Ascending low rows → Memᴰ (n, true) rows →
    (low < first_refusal rows) × (first_refusal rows ≤ n)
first-lowest low [] n a x'' = elim x'' [ ]
first-lowest low ((number, true) ∷ rows) n a (Memᴰ.head e) = omega (arith, ap (λ (r : ℕ × Bool). r.0) e)
first-lowest low ((number, false) ∷ rows) n a (Memᴰ.head e) = absurd (subst T (ap (λ (r : ℕ × Bool). r.1) e) tt)
first-lowest low ((number, true) ∷ rows) n a (Memᴰ.tail m) = omega (arith, numbers-above number rows n true a.1 m)
first-lowest low ((number, false) ∷ rows) n a (Memᴰ.tail m) = omega (arith, first-lowest number rows n a.1 m)

first-applies : (rows : List (ℕ × Bool)) → first_refusal rows ≢ 0 → Memᴰ (first_refusal rows, true) rows
first-applies [] h = absurd (h refl)
first-applies ((number, true) ∷ rows) h = Memᴰ.head refl
first-applies ((number, false) ∷ rows) h = Memᴰ.tail (first-applies rows h)

pub lowest-given : Lowest
lowest-given rows a =
    record {
      applies = first-applies rows;
      lowest = λ n m. let f = first-lowest 0 rows n a m in (omega arith, f.1);
    }

-- ── numbers that are not given ──

-- whether a test of this number holds
abbrev pub test_of : (n : ℕ) → List (ℕ × Bool) → Bool
test_of n [] = false
test_of n ((number, test) ∷ rows) = (eqb n number && test) || test_of n rows

applies-test : (n : ℕ) (rows : List (ℕ × Bool)) → Memᴰ (n, true) rows → test_of n rows ≡ true
applies-test n [] x' = elim x' [ ]
applies-test n ((number, test) ∷ rows) (Memᴰ.head e) =
    rw (eq-eqb n number (ap (λ (r : ℕ × Bool). r.0) e), sym (ap (λ (r : ℕ × Bool). r.1) e))
applies-test n ((number, test) ∷ rows) (Memᴰ.tail m) = rw (applies-test n rows m, or-true)

-- a number whose test fails does not apply
pub test-fails : (n : ℕ) (rows : List (ℕ × Bool)) → test_of n rows ≡ false → Memᴰ (n, true) rows → ⊥
test-fails n rows fails m = false≢true (sym fails ∙ applies-test n rows m)

-- of a call's rows: the first one's test, and the others
abbrev pub first_test : List (ℕ × Bool) → Bool
first_test [] = false
first_test ((number, test) ∷ rows) = test

abbrev pub after_first : List (ℕ × Bool) → List (ℕ × Bool)
after_first [] = []
after_first (row ∷ rows) = rows

pub past_first : (n : ℕ) (rows : List (ℕ × Bool)) → first_test rows ≡ false → test_of n (after_first rows) ≡ false → test_of n rows ≡ false
past_first n [] e f = refl
past_first n ((number, test) ∷ rows) e f = rw (e, f, and-false)
