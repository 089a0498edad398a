-- The most that the probability can be after so many ticks in succession that each found the flow empty, with a target of at least `least`.
use mathlib.Core.Path.{◌≡◌, refl, ap, ◌∙◌}
use mathlib.Core.Bool.{and-false}
use mathlib.Core.List.{List, [], ◌∷◌}
use mathlib.Core.Logic.{⊎_elim}
use Prim.Native.Nat.{ℕ, zero, suc, ◌+◌, ◌-◌, ◌*◌, ◌/◌, ◌≤◌, ◌<◌, min}
use native.Mathlib.Nat.{div-mul-le_self, div-zero, le-div_iff_mul-le, le-max_left, le-max_right, le_refl, le_trans, zero-div, zero-mul}
use native.Mathlib.Omega.{arith}
use borrow.Author.Tests.{le-leb, le-ltb, lt-leb, lt-ltb}
use lib.IntN.{ℤ, pos, negsuc, neg_ℤ, ◌+ℤ◌, ◌-ℤ◌, ◌*ℤ◌, +ℤ_idl, +ℤ_idr}
use lib.Signed.{quot_z}
use Rattle.pie.specs.Update.{error_of, lookup}
use Rattle.pie.proofs.IdleStep.{le-or-lt, sub-below}
use Rattle.pie.proofs.Ints.{pos-minus}
use Rattle.docsis_pie.specs.Constants.{most_prob}
use Rattle.docsis_pie.specs.Probability.{adjusted, capped, divisor_of, limited, step_of, stepped_prob, table}
use Rattle.modem_guarantees.specs.TicksToRecover.{left_of, most_in, most_left}

-- ── one tick, in natural numbers ──

-- how far the step takes p down, by rules 3 and 5
unfoldable fall : (target k : ℕ) → ℕ
fall target k = target * 536870912 / (15625 * k)

-- what rule 7 leaves of it
abbrev kept : ℕ → ℕ
kept n = n - n / 50

neg-mul : (m c : ℕ) → neg_ℤ (pos m) *ℤ pos c ≡ neg_ℤ (pos (m * c))
neg-mul zero c = rw zero-mul
neg-mul (suc m) c = refl

neg-quot : (n d : ℕ) → quot_z (neg_ℤ (pos n)) (pos d) ≡ neg_ℤ (pos (n / d))
neg-quot zero d = rw zero-div
neg-quot (suc n) d = refl

error-empty : (target : ℕ) → error_of 0 0 target ≡ neg_ℤ (pos target)
unfolding error_of
error-empty target = rw (+ℤ_idr, +ℤ_idl (neg_ℤ (pos target)))

step-empty : (target k : ℕ) → step_of (error_of 0 0 target) k ≡ neg_ℤ (pos (fall target k))
unfolding step_of fall
step-empty target k = rw (error-empty target, neg-mul, neg-quot)

-- the cap leaves what is not positive
capped-fall : (p s : ℕ) → capped p (neg_ℤ (pos s)) ≡ neg_ℤ (pos s)
unfolding capped
capped-fall p zero = rw and-false
capped-fall p (suc s) = rw and-false

-- what is below 0 stays so
stays-below : (m q : ℕ) → q ≤ m → limited (negsuc m -ℤ neg_ℤ (pos q)) ≡ 0
unfolding limited
stays-below m zero h = rw (lt-ltb 0 (suc m) (omega arith))
stays-below m (suc q) h = rw (lt-ltb (suc q) (suc m) (omega arith))

below-lost : (m : ℕ) → limited (adjusted 0 0 (negsuc m)) ≡ 0
unfolding adjusted
below-lost m = stays-below m (suc m / 50) (omega arith)

lowered : (p s : ℕ) → limited (adjusted 0 0 (pos p -ℤ pos s)) ≡ min (kept (p - s)) most_prob
unfolding limited adjusted
lowered p s =
    ⊎_elim
    (λ h. rw (pos-minus p s h, pos-minus (p - s) ((p - s) / 50) (omega arith)))
    (λ h.
    let none : p - s ≡ 0 = omega arith in
    rw (sub-below p s h, none) (below-lost (s - suc p)))
    (le-or-lt s p)

left-empty : (target k p : ℕ) → left_of target k p ≡ min (kept (p - fall target k)) most_prob
unfolding left_of
left-empty target k p = rw (step-empty target k, capped-fall p (fall target k)) (lowered p (fall target k))

-- ── more is left of more, and by a lower target ──

div_mono : (k : ℕ) {m n : ℕ} → m ≤ n → m / k ≤ n / k
div_mono zero {m} {n} h = rw (div-zero m, div-zero n) (le_refl 0)
div_mono (suc k) {m} {n} h = (le-div_iff_mul-le {k = suc k} {x = m / suc k} {y = n} (omega arith)).1 (le_trans (div-mul-le_self m (suc k)) h)

fall-mono : (k : ℕ) {least target : ℕ} → least ≤ target → fall least k ≤ fall target k
unfolding fall
fall-mono k h = div_mono (15625 * k) (omega arith)

kept-mono : (m n : ℕ) → m ≤ n → min (kept m) most_prob ≤ min (kept n) most_prob
kept-mono m n h = omega arith

left-mono : (least target k p b : ℕ) → least ≤ target → p ≤ b → left_of target k p ≤ left_of least k b
left-mono least target k p b h l =
    rw (left-empty target k p, left-empty least k b)
    (kept-mono (p - fall target k) (b - fall least k) (omega (arith, fall-mono k h)))

in_rows : (rows : List (ℕ × ℕ)) (least target p b : ℕ) → least ≤ target → p ≤ b → left_of target (lookup rows p) p ≤ most_in rows least b
unfolding lookup most_in
in_rows [] least target p b h l = left-mono least target 1 p b h l
in_rows ((end, k) ∷ rows) least target p b h l =
    ⊎_elim
    (λ low.
    rw (le-leb p end low)
    (le_trans (left-mono least target k p (min b end) h (omega arith)) (le-max_left (left_of least k (min b end)) (most_in rows least b))))
    (λ high.
    rw (lt-leb p end high)
    (le_trans (in_rows rows least target p b h l) (le-max_right (left_of least k (min b end)) (most_in rows least b))))
    (le-or-lt p end)

next-le-most : (least target p b : ℕ) → least ≤ target → p ≤ b → stepped_prob p 0 0 target ≤ most_left least b
unfolding stepped_prob divisor_of most_left left_of
next-le-most least target p b h l = in_rows table least target p b h l

most-in-mono : (rows : List (ℕ × ℕ)) (least target b c : ℕ) → least ≤ target → b ≤ c → most_in rows target b ≤ most_in rows least c
unfolding most_in
most-in-mono [] least target b c h l = left-mono least target 1 b c h l
most-in-mono ((end, k) ∷ rows) least target b c h l =
    let first = left-mono least target k (min b end) (min c end) h (omega arith) in
    omega (arith, first, most-in-mono rows least target b c h l)

most-left-mono : (least target b c : ℕ) → least ≤ target → b ≤ c → most_left target b ≤ most_left least c
unfolding most_left
most-left-mono least target b c h l = most-in-mono table least target b c h l

none_in : (rows : List (ℕ × ℕ)) (least : ℕ) → most_in rows least 0 ≡ 0
unfolding most_in
none_in [] least = rw (left-empty least 1 0) (omega arith)
none_in ((end, k) ∷ rows) least = omega (arith, left-empty least k (min 0 end), none_in rows least)

none_left : (least : ℕ) → most_left least 0 ≡ 0
unfolding most_left
none_left least = none_in table least

-- ── the first tick may find an old delay ──

neg-add : (a b : ℕ) → neg_ℤ (pos a) +ℤ neg_ℤ (pos b) ≡ neg_ℤ (pos (a + b))
neg-add zero b = let same : 0 + b ≡ b = omega arith in rw (+ℤ_idl (neg_ℤ (pos b)), same)
neg-add (suc a) zero = let same : suc a + 0 ≡ suc a = omega arith in rw (+ℤ_idr, same)
neg-add (suc a) (suc b) = let same : suc a + suc b ≡ suc (suc (a + b)) = omega arith in rw same

ten-times : (old : ℕ) → pos 10 *ℤ neg_ℤ (pos old) ≡ neg_ℤ (pos (10 * old))
ten-times zero = refl
ten-times (suc old) = refl

error-first : (old target : ℕ) → error_of 0 old target ≡ neg_ℤ (pos (target + 10 * old))
unfolding error_of
error-first old target = rw (+ℤ_idl (neg_ℤ (pos target)), +ℤ_idl (neg_ℤ (pos old)), ten-times old) (neg-add target (10 * old))

adjusted-low : (old : ℕ) (q : ℤ) → old < 5000 → adjusted 0 old q ≡ adjusted 0 0 q
unfolding adjusted
adjusted-low old q h = rw (lt-ltb old 5000 h)

adjusted-high : (old : ℕ) (q : ℤ) → 5000 ≤ old → adjusted 0 old q ≡ q
unfolding adjusted
adjusted-high old q h = rw (le-ltb old 5000 h)

-- a low one only adds to the step
first-low : (p old target : ℕ) → old < 5000 → stepped_prob p 0 old target ≡ stepped_prob p 0 0 (target + 10 * old)
unfolding stepped_prob
first-low p old target h = rw (error-first old target, error-empty (target + 10 * old)) (ap limited (adjusted-low old _ h))

unlowered : (p s : ℕ) → limited (pos p -ℤ pos s) ≡ min (p - s) most_prob
unfolding limited
unlowered p s =
    ⊎_elim
    (λ h. rw (pos-minus p s h))
    (λ h. let none : p - s ≡ 0 = omega arith in rw (sub-below p s h, none))
    (le-or-lt s p)

-- with one that is not low rule 7 takes nothing, and the step is large
first-high : (p old target : ℕ) → 5000 ≤ old →
    stepped_prob p 0 old target ≡ min (p - fall (target + 10 * old) (divisor_of p)) most_prob
unfolding stepped_prob
first-high p old target h =
    let far = target + 10 * old in
    let k = divisor_of p in
    rw (error-first old target, ← error-empty far, step-empty far k, capped-fall p (fall far k))
    (ap limited (adjusted-high old _ h) ∙ unlowered p (fall far k))

divisor-last : (p : ℕ) → 42949672959 < p → p ≤ most_prob → divisor_of p ≡ 1
unfolding divisor_of lookup
divisor-last p h l =
    rw (
      lt-leb p 4294 (omega arith),
      lt-leb p 42949 (omega arith),
      lt-leb p 429496 (omega arith),
      lt-leb p 4294967 (omega arith),
      lt-leb p 42949672 (omega arith),
      lt-leb p 429496729 (omega arith),
      lt-leb p 4294967295 (omega arith),
      lt-leb p 42949672959 h,
      le-leb p 58411555225 l,
    )

fall-last-high : (target : ℕ) → target ≤ 100000 → fall target 1 ≤ 3435973837
unfolding fall
fall-last-high target h = omega arith

fall-last-apart : (target old : ℕ) → 5000 ≤ old → fall target 1 + 1717986918 ≤ fall (target + 10 * old) 1
unfolding fall
fall-last-apart target old h = omega arith

-- below the last row, and in it
lower-rows : (p s f : ℕ) → p ≤ 42949672959 → f ≤ 3435973837 → min (p - s) most_prob ≤ min (kept (most_prob - f)) most_prob
lower-rows p s f h l = omega arith

last_row : (p s f : ℕ) → p ≤ most_prob → f ≤ 3435973837 → f + 1717986918 ≤ s → min (p - s) most_prob ≤ min (kept (most_prob - f)) most_prob
last_row p s f h l a = omega arith

first-high-le : (p old target : ℕ) → target ≤ 100000 → p ≤ most_prob → 5000 ≤ old → stepped_prob p 0 old target ≤ left_of target 1 most_prob
first-high-le p old target t l h =
    rw (first-high p old target h, left-empty target 1 most_prob)
    (⊎_elim
    (λ low. lower-rows p (fall (target + 10 * old) (divisor_of p)) (fall target 1) low (fall-last-high target t))
    (λ high.
    rw (divisor-last p high l)
    (last_row p (fall (target + 10 * old) 1) (fall target 1) l (fall-last-high target t) (fall-last-apart target old h)))
    (le-or-lt p 42949672959))

last-in : (rows : List (ℕ × ℕ)) (target b : ℕ) → left_of target 1 b ≤ most_in rows target b
unfolding most_in
last-in [] target b = le_refl (left_of target 1 b)
last-in ((end, k) ∷ rows) target b = le_trans (last-in rows target b) (le-max_right (left_of target k (min b end)) (most_in rows target b))

first-le : (p old target : ℕ) → target ≤ 100000 → p ≤ most_prob → stepped_prob p 0 old target ≤ most_left target most_prob
unfolding most_left
first-le p old target t l =
    ⊎_elim
    (λ high. le_trans (first-high-le p old target t l high) (last-in table target most_prob))
    (λ low. rw (first-low p old target low) (next-le-most target (target + 10 * old) p most_prob (omega arith) l))
    (le-or-lt 5000 old)

-- ── tick after tick ──

unfoldable pub bound : (least ticks : ℕ) → ℕ
bound least zero = most_prob
bound least (suc n) = most_left least (bound least n)

pub bound-step : (least n : ℕ) → bound least (suc n) ≡ most_left least (bound least n)
unfolding bound
bound-step least n = refl

pub bound-first : (target p old : ℕ) → target ≤ 100000 → p ≤ bound target 0 → stepped_prob p 0 old target ≤ bound target 1
unfolding bound
bound-first target p old t l = first-le p old target t l

pub bound-next : (target n p : ℕ) → p ≤ bound target n → stepped_prob p 0 0 target ≤ bound target (suc n)
unfolding bound
bound-next target n p l = next-le-most target target p (bound target n) (le_refl target) l

bound-after : (least n : ℕ) → bound least n ≡ 0 → bound least (suc n) ≡ 0
unfolding bound
bound-after least n e = rw e (none_left least)

-- once it is 0 it stays 0
pub bound-stays : (least ticks n : ℕ) → ticks ≤ n → bound least ticks ≡ 0 → bound least n ≡ 0
bound-stays least ticks zero h e = let same : ticks ≡ 0 = omega arith in rw same at e
bound-stays least ticks (suc n) h e =
    ⊎_elim
    (λ l. bound-after least n (bound-stays least ticks n l e))
    (λ l. let same : ticks ≡ suc n = omega arith in rw same at e)
    (le-or-lt ticks n)

-- a higher target has a lower bound
pub bound-mono : (least target n : ℕ) → least ≤ target → bound target n ≤ bound least n
unfolding bound
bound-mono least target zero h = le_refl most_prob
bound-mono least target (suc n) h = most-left-mono least target (bound target n) (bound least n) h (bound-mono least target n h)
