-- The ring: its head, its parts, and a write behind it.
use mathlib.Core.Path.{◌≡◌, refl, ap, sym, ◌∙◌}
use mathlib.Core.List.{List, [], ◌∷◌, ◌++◌, append_assoc, append-nil}
use Prim.Native.Nat.{ℕ, zero, suc, ◌+◌, ◌-◌, ◌≤◌, ◌<◌}
use native.Mathlib.Nat.{add-suc, add-zero}
use native.Mathlib.Numerals.{add-one}
use native.Mathlib.Omega.{arith}
use lib.ListN.{get_or, length, length-append, set}
use lib.Seq.{get_or-set_other, get_or-set_same}
use Rattle.schedule.specs.Ring.{place, ring_of}

pub place-lt : (first i : ℕ) → place first i < 64
place-lt first i = omega arith

pub place-next : (first i j : ℕ) → place (place first i) j ≡ place first (i + j)
place-next first i j = omega arith

pub place-ne : (first i n : ℕ) → i < n → n < 64 → place first i ≡ place first n → ⊥
place-ne first i n p q e = omega arith

pub length-ring : (order : List ℕ) (first n : ℕ) → length (ring_of order first n) ≡ n
unfolding ring_of
length-ring order first zero = refl
length-ring order first (suc n) =
    omega (arith, length-append (ring_of order first n) (get_or order (place first n) 0 ∷ []), length-ring order first n)

pub ring-none : (order : List ℕ) (first n : ℕ) → n ≡ 0 → ring_of order first n ≡ []
unfolding ring_of
ring-none order first n e = rw e

-- one flow more, at the end
pub ring-more : (order : List ℕ) (first n : ℕ) → ring_of order first (n + 1) ≡ ring_of order first n ++ get_or order (place first n) 0 ∷ []
unfolding ring_of
ring-more order first n = rw add-one

-- the first flow, and the others from the next place on
pub ring-head : (order : List ℕ) (first n : ℕ) → first < 64 →
    ring_of order first (suc n) ≡ get_or order first 0 ∷ ring_of order (place first 1) n
unfolding ring_of
ring-head order first zero h =
    let e : place first 0 ≡ first = omega arith in ap (λ k. get_or order k 0 ∷ []) e
ring-head order first (suc n) h =
    let e : place first (suc n) ≡ place (place first 1) n = omega arith in
    ap (λ l. l ++ get_or order (place first (suc n)) 0 ∷ []) (ring-head order first n h)
    ∙ ap (λ k. get_or order first 0 ∷ (ring_of order (place first 1) n ++ get_or order k 0 ∷ [])) e

-- a place past the first n is written
pub ring-set : (order : List ℕ) (first n m x : ℕ) → n ≤ m → m < 64 → ring_of (set order (place first m) x) first n ≡ ring_of order first n
unfolding ring_of
ring-set order first zero m x p q = refl
ring-set order first (suc n) m x p q =
    ap (λ l. l ++ get_or (set order (place first m) x) (place first n) 0 ∷ []) (ring-set order first n m x (omega arith) q)
    ∙ ap (λ y. ring_of order first n ++ y ∷ [])
    (get_or-set_other order (place first m) (place first n) x 0 (place-ne first n m (omega arith) q))

-- the place behind the first n is written: they have one more
pub ring-end : (order : List ℕ) (first n x : ℕ) → length order ≡ 64 → n < 64 →
    ring_of (set order (place first n) x) first (suc n) ≡ ring_of order first n ++ x ∷ []
unfolding ring_of
ring-end order first n x h p =
    ap (λ l. l ++ get_or (set order (place first n) x) (place first n) 0 ∷ []) (ring-set order first n n x (omega arith) p)
    ∙ ap (λ y. ring_of order first n ++ y ∷ []) (get_or-set_same order (place first n) x 0 (omega (arith, place-lt first n)))

-- two parts of the ring
pub ring-add : (order : List ℕ) (first a b : ℕ) → ring_of order first (a + b) ≡ ring_of order first a ++ ring_of order (place first a) b
unfolding ring_of
ring-add order first a zero = rw (add-zero a) (sym (append-nil (ring_of order first a)))
ring-add order first a (suc b) =
    ap (ring_of order first) (add-suc a b)
    ∙ ap (λ l. l ++ get_or order (place first (a + b)) 0 ∷ []) (ring-add order first a b)
    ∙ append_assoc (ring_of order first a) (ring_of order (place first a) b) (get_or order (place first (a + b)) 0 ∷ [])
    ∙ ap (λ p. ring_of order first a ++ (ring_of order (place first a) b ++ get_or order p 0 ∷ [])) (sym (place-next first a b))

pub ring-both : (order : List ℕ) (first old listed : ℕ) → old ≤ listed →
    ring_of order first listed ≡ ring_of order first old ++ ring_of order (place first old) (listed - old)
ring-both order first old listed h =
    let e : listed ≡ old + (listed - old) = omega arith in
    ap (ring_of order first) e ∙ ring-add order first old (listed - old)
