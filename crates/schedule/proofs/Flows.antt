-- Lists of which each entry is a flow.
use mathlib.Core.Path.{◌≡◌, refl, ap, sym, ◌∙◌}
use mathlib.Core.Bool.{Bool, true, false, ◌&&◌, false≢true}
use mathlib.Core.List.{List, [], ◌∷◌, ◌++◌}
use Prim.Native.Nat.{ℕ, suc, ◌+◌, ◌-◌, ◌≤◌, ◌<◌}
use native.Mathlib.Omega.{arith}
use lib.Dec.{ltb}
use lib.ListN.{get_or}
use borrow.Author.Tests.{ltb-true, ltb-false, lt-ltb, le-ltb}
use Rattle.laws.proofs.Tests.{and_left, and_right}
use Rattle.schedule.specs.Ring.{Schedule, new_list, old_list, place, ring_of}
use Rattle.schedule.specs.WellFormed.{are_flows}
use Rattle.schedule.proofs.Ring.{ring-both, ring-head, ring-more, ring-none}

and_assoc : (a b c : Bool) → a && b && c ≡ a && (b && c)
and_assoc true b c = refl
and_assoc false b c = refl

and-true : (a : Bool) → a && true ≡ a
and-true true = refl
and-true false = refl

and-false : (a : Bool) → a && false ≡ false
and-false true = refl
and-false false = refl

pub flows-append : (a b : List ℕ) → are_flows (a ++ b) ≡ are_flows a && are_flows b
unfolding are_flows
flows-append [] b = refl
flows-append (x ∷ a) b = ap (λ c. ltb x 64 && c) (flows-append a b) ∙ sym (and_assoc (ltb x 64) (are_flows a) (are_flows b))

-- the first is a flow, and so are the others
pub flows-head : (x : ℕ) (l : List ℕ) → are_flows (x ∷ l) ≡ true → (x < 64) × (are_flows l ≡ true)
unfolding are_flows
flows-head x l h = (ltb-true x 64 (and_left (ltb x 64) (are_flows l) h), and_right (ltb x 64) (are_flows l) h)

-- one flow more, at the end
pub flows-end : (l : List ℕ) (x : ℕ) → are_flows (l ++ x ∷ []) ≡ are_flows l && ltb x 64
unfolding are_flows
flows-end l x = flows-append l (x ∷ []) ∙ ap (λ b. are_flows l && b) (and-true (ltb x 64))

pub flows-and : (l : List ℕ) (x : ℕ) → are_flows l ≡ true → x < 64 → are_flows (l ++ x ∷ []) ≡ true
flows-and l x h low = flows-end l x ∙ rw (h, lt-ltb x 64 low) refl

-- ── in the ring ──

pub flows-none : (order : List ℕ) (first : ℕ) → are_flows (ring_of order first 0) ≡ true
unfolding are_flows
flows-none order first = rw (ring-none order first 0 refl) refl

pub flows-more : (order : List ℕ) (first n : ℕ) → are_flows (ring_of order first n) ≡ true → get_or order (place first n) 0 < 64 →
    are_flows (ring_of order first (n + 1)) ≡ true
flows-more order first n h low =
    ap are_flows (ring-more order first n) ∙ flows-and (ring_of order first n) (get_or order (place first n) 0) h low

-- another number among the first i + 1: nothing later mends that
pub flows-broken : (order : List ℕ) (first i n : ℕ) → i < n → 64 ≤ get_or order (place first i) 0 → are_flows (ring_of order first n) ≡ false
flows-broken order first i n h big =
    let l = ring_of order first i in
    let x = get_or order (place first i) 0 in
    let rest = ring_of order (place first (i + 1)) (n - (i + 1)) in
    let broken : are_flows (ring_of order first (i + 1)) ≡ false =
    ap are_flows (ring-more order first i) ∙ flows-end l x ∙ ap (λ b. are_flows l && b) (le-ltb x 64 big) ∙ and-false (are_flows l) in
    ap are_flows (ring-both order first (i + 1) n (omega arith))
    ∙ flows-append (ring_of order first (i + 1)) rest
    ∙ ap (λ b. b && are_flows rest) broken

-- the flow at the head, and the others
pub flows-first : (order : List ℕ) (first n : ℕ) → first < 64 → 0 < n → are_flows (ring_of order first n) ≡ true →
    (get_or order first 0 < 64) × (are_flows (ring_of order (place first 1) (n - 1)) ≡ true)
flows-first order first n f h e =
    let k : n ≡ suc (n - 1) = omega arith in
    let l : ring_of order first n ≡ get_or order first 0 ∷ ring_of order (place first 1) (n - 1) =
    ap (ring_of order first) k ∙ ring-head order first (n - 1) f in
    flows-head (get_or order first 0) (ring_of order (place first 1) (n - 1)) (sym (ap are_flows l) ∙ e)

-- the flow at place i
pub flow-at : (order : List ℕ) (first i n : ℕ) → i < n → are_flows (ring_of order first n) ≡ true → get_or order (place first i) 0 < 64
flow-at order first i n h e = go (ltb (get_or order (place first i) 0) 64) refl
  where
    go : (b : Bool) → ltb (get_or order (place first i) 0) 64 ≡ b → get_or order (place first i) 0 < 64
    go true q = ltb-true (get_or order (place first i) 0) 64 q
    go false q = absurd (false≢true (sym (flows-broken order first i n h (ltb-false (get_or order (place first i) 0) 64 q)) ∙ e))

-- both lists
pub flows-both : (s : Schedule) → s.lists.old ≤ s.lists.listed →
    are_flows (ring_of s.order s.lists.first s.lists.listed) ≡ are_flows (new_list s) && are_flows (old_list s)
flows-both s h =
    ap are_flows (ring-both s.order s.lists.first s.lists.old s.lists.listed h)
    ∙ flows-append (old_list s) (new_list s)
    ∙ and-swap (are_flows (old_list s)) (are_flows (new_list s))
  where
    and-swap : (a b : Bool) → a && b ≡ b && a
    and-swap true true = refl
    and-swap true false = refl
    and-swap false true = refl
    and-swap false false = refl
