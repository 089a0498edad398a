-- The most that the probability can be after so many ticks in succession that each found the queue empty, with a target of at least
-- `least`.
use mathlib.Core.Path.{◌≡◌, refl}
use mathlib.Core.Bool.{Bool, false}
use mathlib.Core.List.{List, [], ◌∷◌}
use mathlib.Core.Logic.{◌⊎◌, inl, inr, ⊎_elim}
use Prim.Native.Nat.{ℕ, zero, suc, ◌-◌, ◌*◌, ◌/◌, ◌≤◌, max, min}
use native.Mathlib.Nat.{div-mul-le_self, div-zero, le-div_iff_mul-le, le-max_left, le-max_right, le_refl, le_trans}
use native.Mathlib.Omega.{arith}
use borrow.Author.Tests.{le-leb, lt-leb}
use Rattle.units.specs.Kinds.{whole}
use Rattle.pie.specs.Update.{divisor_of, lookup, next_prob, table}
use Rattle.pie.proofs.IdleStep.{fall, le-or-lt}
use Rattle.pie_guarantees.specs.TicksToRecover.{most_left, row_before}
use Rattle.pie_guarantees.proofs.Fall.{kept, next-empty}

unfoldable pub bound : (least ticks : ℕ) → ℕ
bound least zero = whole
bound least (suc zero) = whole
bound least (suc (suc n)) = most_left least (bound least (suc n))

-- ── one tick ──

div_mono : (k : ℕ) {m n : ℕ} → m ≤ n → m / k ≤ n / k
div_mono zero {m} {n} h = rw (div-zero m, div-zero n) (le_refl 0)
div_mono (suc k) {m} {n} h = (le-div_iff_mul-le {k = suc k} {x = m / suc k} {y = n} (omega arith)).1 (le_trans (div-mul-le_self m (suc k)) h)

fall-mono : (k : ℕ) {least target : ℕ} → least ≤ target → fall least k ≤ fall target k
unfolding fall
fall-mono k h = div_mono (15625 * k) (omega arith)

-- p is in b's row, or in a row before it
same_row : (rows : List (ℕ × ℕ)) (p b : ℕ) → p ≤ b → (lookup rows p ≡ lookup rows b) ⊎ (p ≤ row_before rows b)
unfolding lookup row_before
same_row [] p b h = inl refl
same_row ((end, k) ∷ rows) p b h =
    ⊎_elim
    (λ l. inl (rw (le-leb p end (le_trans h l), le-leb b end l)))
    (λ l.
    ⊎_elim
    (λ m. inr (rw (lt-leb b end l) (le_trans m (le-max_left end (row_before rows b)))))
    (λ m.
    rw (lt-leb p end m, lt-leb b end l)
    (⊎_elim (λ e. inl e) (λ n. inr (le_trans n (le-max_right end (row_before rows b)))) (same_row rows p b h)))
    (le-or-lt p end))
    (le-or-lt b end)

row-before-mono : (rows : List (ℕ × ℕ)) (b c : ℕ) → b ≤ c → row_before rows b ≤ row_before rows c
unfolding row_before
row-before-mono [] b c h = le_refl 0
row-before-mono ((end, k) ∷ rows) b c h =
    ⊎_elim
    (λ l. rw (le-leb b end l) (omega arith))
    (λ l. rw (lt-leb b end l, lt-leb c end (omega arith)) (omega (arith, row-before-mono rows b c h)))
    (le-or-lt b end)

same-divisor : (p b : ℕ) → p ≤ b → (divisor_of p ≡ divisor_of b) ⊎ (p ≤ row_before table b)
unfolding divisor_of
same-divisor p b h = same_row table p b h

kept-mono : (m n : ℕ) → m ≤ n → kept m ≤ kept n
kept-mono m n h = omega arith

limited-mono : (m n r : ℕ) → m ≤ n → min m whole ≤ max (min n whole) r
limited-mono m n r h = omega arith

lower-row : (p s n r : ℕ) → p ≤ r → min (kept (p - s)) whole ≤ max n r
lower-row p s n r h = omega arith

-- by either profile
pub next-le-most : (calm : Bool) (least target p b : ℕ) → least ≤ target → p ≤ b → next_prob calm p 0 0 target ≤ most_left least b
unfolding most_left
next-le-most calm least target p b h l =
    let k = divisor_of b in
    let less : p - fall target k ≤ b - fall least k = omega (arith, fall-mono k h) in
    rw (next-empty calm p target, next-empty false b least)
    (⊎_elim (λ e. rw e (limited-mono _ _ _ (kept-mono _ _ less))) (λ m. lower-row p _ _ _ m) (same-divisor p b l))

most-left-mono : (least target b c : ℕ) → least ≤ target → b ≤ c → most_left target b ≤ most_left least c
unfolding most_left
most-left-mono least target b c h l = omega (arith, next-le-most false least target b c h l, row-before-mono table b c l)

-- ── tick after tick ──

pub bound-step : (least n : ℕ) → bound least (suc (suc n)) ≡ most_left least (bound least (suc n))
unfolding bound
bound-step least n = refl

pub bound-next : (calm : Bool) (least target n p : ℕ) → least ≤ target → p ≤ bound least (suc n) →
    next_prob calm p 0 0 target ≤ bound least (suc (suc n))
unfolding bound
bound-next calm least target n p h l = next-le-most calm least target p (bound least (suc n)) h l

none_left : (least : ℕ) → most_left least 0 ≡ 0
unfolding most_left row_before
none_left least = rw (next-empty false 0 least) (omega arith)

bound-after : (least n : ℕ) → bound least n ≡ 0 → bound least (suc n) ≡ 0
unfolding bound
bound-after least zero e = e
bound-after least (suc n) e = rw e (none_left least)

-- once it is 0 it stays 0
pub bound-stays : (least ticks n : ℕ) → ticks ≤ n → bound least ticks ≡ 0 → bound least n ≡ 0
bound-stays least ticks zero h e = let same : ticks ≡ 0 = omega arith in rw same at e
bound-stays least ticks (suc n) h e =
    ⊎_elim
    (λ l. bound-after least n (bound-stays least ticks n l e))
    (λ l. let same : ticks ≡ suc n = omega arith in rw same at e)
    (le-or-lt ticks n)

-- a higher target has a lower bound
pub bound-mono : (least target n : ℕ) → least ≤ target → bound target n ≤ bound least n
unfolding bound
bound-mono least target zero h = le_refl whole
bound-mono least target (suc zero) h = le_refl whole
bound-mono least target (suc (suc n)) h =
    most-left-mono least target (bound target (suc n)) (bound least (suc n)) h (bound-mono least target (suc n) h)
