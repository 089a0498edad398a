-- How often a flow stands in a list.
use mathlib.Core.Path.{◌≡◌, refl, ap, sym, ◌∙◌}
use mathlib.Core.Bool.{Bool, true, false, cond, not}
use mathlib.Core.List.{List, [], ◌∷◌, ◌++◌}
use Prim.Native.Nat.{ℕ, suc, ◌+◌, ◌-◌, ◌≤◌, ◌<◌}
use native.Mathlib.Omega.{arith}
use lib.Dec.{eqb}
use lib.ListN.{get_or, length}
use borrow.Author.Tests.{eq-eqb, ne_eqb}
use Rattle.schedule.specs.Ring.{Schedule, new_list, old_list, place, ring_of, two_lists}
use Rattle.schedule.specs.TwoLists.{listed, occurs}
use Rattle.schedule.proofs.Ring.{ring-both, ring-more, ring-none}

pub occurs-append : (flow : ℕ) (a b : List ℕ) → occurs flow (a ++ b) ≡ occurs flow a + occurs flow b
unfolding occurs
occurs-append flow [] b = omega arith
occurs-append flow (x ∷ a) b = omega (arith, occurs-append flow a b)

pub occurs-none : (flow : ℕ) → occurs flow [] ≡ 0
unfolding occurs
occurs-none flow = refl

pub occurs-head : (x flow : ℕ) (l : List ℕ) → occurs flow (x ∷ l) ≡ occurs flow (x ∷ []) + occurs flow l
unfolding occurs
occurs-head x flow l = omega arith

pub occurs-self : (x : ℕ) → occurs x (x ∷ []) ≡ 1
unfolding occurs
occurs-self x = rw (eq-eqb x x refl)

pub occurs-other : (x flow : ℕ) → (x ≡ flow → ⊥) → occurs flow (x ∷ []) ≡ 0
unfolding occurs
occurs-other x flow h = rw (ne_eqb x flow h)

pub occurs-end : (x flow : ℕ) (l : List ℕ) → occurs flow (l ++ x ∷ []) ≡ occurs flow l + occurs flow (x ∷ [])
occurs-end x flow l = occurs-append flow l (x ∷ [])

pub occurs-le : (flow : ℕ) (l : List ℕ) → occurs flow l ≤ length l
unfolding occurs
occurs-le flow [] = omega arith
occurs-le flow (x ∷ l) = go (eqb x flow) (occurs-le flow l)
  where
    go : (b : Bool) → occurs flow l ≤ length l → cond b 1 0 + occurs flow l ≤ suc (length l)
    go true h = omega arith
    go false h = omega arith

-- ── in the ring ──

pub occurs-first : (order : List ℕ) (first flow : ℕ) → occurs flow (ring_of order first 0) ≡ 0
occurs-first order first flow = ap (occurs flow) (ring-none order first 0 refl) ∙ occurs-none flow

pub occurs-more : (order : List ℕ) (first n flow : ℕ) →
    occurs flow (ring_of order first (n + 1)) ≡ occurs flow (ring_of order first n) + occurs flow (get_or order (place first n) 0 ∷ [])
occurs-more order first n flow =
    ap (occurs flow) (ring-more order first n) ∙ occurs-append flow (ring_of order first n) (get_or order (place first n) 0 ∷ [])

-- a flow at place i stands among the first n
pub occurs-at : (order : List ℕ) (first i n flow : ℕ) → i < n → get_or order (place first i) 0 ≡ flow →
    1 ≤ occurs flow (ring_of order first n)
occurs-at order first i n flow h e =
    let l = ring_of order first (i + 1) in
    let rest = ring_of order (place first (i + 1)) (n - (i + 1)) in
    let one : occurs flow (get_or order (place first i) 0 ∷ []) ≡ 1 = rw e (occurs-self flow) in
    let both : occurs flow (ring_of order first n) ≡ occurs flow l + occurs flow rest =
    ap (occurs flow) (ring-both order first (i + 1) n (omega arith)) ∙ occurs-append flow l rest in
    omega (arith, both, occurs-more order first i flow, one)

-- in both lists
pub occurs-both : (flow : ℕ) (s : Schedule) → s.lists.old ≤ s.lists.listed →
    occurs flow (ring_of s.order s.lists.first s.lists.listed) ≡ listed flow (two_lists s)
occurs-both flow s h =
    ap (occurs flow) (ring-both s.order s.lists.first s.lists.old s.lists.listed h)
    ∙ omega (arith, occurs-append flow (old_list s) (new_list s))

-- ── whether a flow is listed ──

pub is-in : (n : ℕ) → 1 ≤ n → true ≡ not (eqb n 0)
is-in n h = sym (ap not (ne_eqb n 0 (λ e. omega arith)))

pub is-out : (n : ℕ) → n ≡ 0 → false ≡ not (eqb n 0)
is-out n e = sym (ap not (eq-eqb n 0 e))
