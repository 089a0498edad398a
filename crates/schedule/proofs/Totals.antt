-- Lists of different flows have at most 64, and fewer where they lack one: the occurrences of all 64 flows sum to their lengths.
use mathlib.Core.Path.{◌≡◌, refl, ap, sym, ◌∙◌}
use mathlib.Core.Bool.{Bool, true, false, cond}
use mathlib.Core.List.{List, [], ◌∷◌}
use Prim.Native.Nat.{ℕ, zero, suc, ◌+◌, ◌≤◌, ◌<◌}
use native.Mathlib.Omega.{arith}
use lib.Dec.{eqb, ltb}
use lib.ListN.{length}
use borrow.Author.Tests.{ne_eqb, eqb-true, eqb-false, ltb-true}
use Rattle.laws.proofs.Tests.{and_left, and_right}
use Rattle.schedule.specs.TwoLists.{TwoLists, listed, occurs}
use Rattle.schedule.specs.WellFormed.{are_flows, lists_well}
use Rattle.schedule.proofs.Well.{facts-of, less, parts}

-- f 0 + .. + f (n − 1)
unfoldable sum : (n : ℕ) (f : ℕ → ℕ) → ℕ
sum zero f = 0
sum (suc n) f = sum n f + f n

sum-le : (n : ℕ) (f : ℕ → ℕ) → ((j : ℕ) → j < n → f j ≤ 1) → sum n f ≤ n
unfolding sum
sum-le zero f h = omega arith
sum-le (suc n) f h = omega (arith, sum-le n f (λ j p. h j (omega arith)), h n (omega arith))

-- one is 0: less than n
sum_lt : (n : ℕ) (f : ℕ → ℕ) → ((j : ℕ) → j < n → f j ≤ 1) → (i : ℕ) → i < n → f i ≡ 0 → sum n f < n
unfolding sum
sum_lt zero f h i p z = absurd (omega arith)
sum_lt (suc n) f h i p z = go (eqb i n) refl (λ q. sum_lt n f (λ j r. h j (omega arith)) i q z) (sum-le n f (λ j r. h j (omega arith)))
  where
    go : (b : Bool) → eqb i n ≡ b → (i < n → sum n f < n) → sum n f ≤ n → sum n f + f n < suc n
    go true e next le = omega (arith, ap f (sym (eqb-true i n e)))
    go false e next le = omega (arith, next (less i n p (eqb-false i n e)), h n (omega arith))

sum-zero : (n : ℕ) → sum n (λ j. 0) ≡ 0
unfolding sum
sum-zero zero = refl
sum-zero (suc n) = omega (arith, sum-zero n)

sum-add : (n : ℕ) (f g : ℕ → ℕ) → sum n (λ j. f j + g j) ≡ sum n f + sum n g
unfolding sum
sum-add zero f g = refl
sum-add (suc n) f g = omega (arith, sum-add n f g)

sum-none : (n x : ℕ) → n ≤ x → sum n (λ j. cond (eqb x j) 1 0) ≡ 0
unfolding sum
sum-none zero x h = refl
sum-none (suc n) x h = rw (sum-none n x (omega arith), ne_eqb x n (λ e. omega arith)) refl

-- one flow counts once
sum_one : (n x : ℕ) → x < n → sum n (λ j. cond (eqb x j) 1 0) ≡ 1
unfolding sum
sum_one zero x p = absurd (omega arith)
sum_one (suc n) x p = go (eqb x n) refl (sum_one n x)
  where
    go : (b : Bool) → eqb x n ≡ b → (x < n → sum n (λ j. cond (eqb x j) 1 0) ≡ 1) → sum n (λ j. cond (eqb x j) 1 0) + cond b 1 0 ≡ 1
    go true e next = rw (sum-none n x (omega (arith, eqb-true x n e))) refl
    go false e next = rw (next (less x n p (eqb-false x n e))) refl

sum-listed : (l : List ℕ) → are_flows l ≡ true → sum 64 (λ j. occurs j l) ≡ length l
unfolding are_flows occurs
sum-listed [] h = sum-zero 64
sum-listed (x ∷ l) h =
    let low = ltb-true x 64 (and_left (ltb x 64) (are_flows l) h) in
    sum-add 64 (λ j. cond (eqb x j) 1 0) (λ j. occurs j l)
    ∙ omega (arith, sum_one 64 x low, sum-listed l (and_right (ltb x 64) (are_flows l) h))

module _ (counts : List ℕ) (l : TwoLists) (h : lists_well counts l ≡ true) where
  sum_both : sum 64 (λ j. listed j l) ≡ length l.new + length l.old
  sum_both =
      sum-add 64 (λ j. occurs j l.new) (λ j. occurs j l.old)
      ∙ omega (arith, sum-listed l.new (parts counts l h).0, sum-listed l.old (parts counts l h).1)

  pub at-most-all : length l.new + length l.old ≤ 64
  at-most-all = omega (arith, sum_both, sum-le 64 (λ j. listed j l) (facts-of counts l h).once)

  -- where a flow is in neither list, fewer than 64 are listed
  pub room : (i : ℕ) → i < 64 → listed i l ≡ 0 → length l.new + length l.old < 64
  room i p z = omega (arith, sum_both, sum_lt 64 (λ j. listed j l) (facts-of counts l h).once i p z)
