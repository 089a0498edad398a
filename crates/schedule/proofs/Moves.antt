-- What a look moves stays in range.
use mathlib.Core.Path.{◌≡◌, refl, ap, ◌∙◌}
use mathlib.Core.Bool.{true}
use mathlib.Core.List.{List, [], ◌∷◌}
use Prim.Native.Nat.{ℕ, zero, suc, ◌+◌, ◌-◌, ◌≤◌, ◌<◌}
use native.Mathlib.Omega.{arith}
use lib.ListN.{get_or, set}
use Rattle.schedule.specs.declared.Lists.{Lists}
use Rattle.schedule.specs.Ring.{place, ring_of}
use Rattle.schedule.specs.WellFormed.{are_flows}
use Rattle.schedule.proofs.Flows.{flows-and, flows-first}
use Rattle.schedule.proofs.Ring.{ring-more, ring-set}

-- where a flow is written, a flow is read
low-set : (l : List ℕ) (i x : ℕ) → x < 64 → get_or (set l i x) i 0 < 64
low-set [] i x h = omega arith
low-set (y ∷ l) zero x h = h
low-set (y ∷ l) (suc i) x h = low-set l i x h

-- the old list's head goes to its end
pub rotated : (order : List ℕ) (first n flow : ℕ) → first < 64 → 0 < n → n ≤ 64 → flow < 64 → are_flows (ring_of order first n) ≡ true →
    are_flows (ring_of (set order (place first n) flow) (place first 1) n) ≡ true
rotated order first n flow f h k low e =
    let next = place first 1 in
    let end = place first n in
    let new = set order end flow in
    let a : n ≡ n - 1 + 1 = omega arith in
    let b : end ≡ place next (n - 1) = omega arith in
    let kept : ring_of new next (n - 1) ≡ ring_of order next (n - 1) =
    ap (λ p. ring_of (set order p flow) next (n - 1)) b ∙ ring-set order next (n - 1) (n - 1) flow (omega arith) (omega arith) in
    let last : get_or new (place next (n - 1)) 0 < 64 = rw (← b) (low-set order end flow low) in
    ap (λ m. are_flows (ring_of new next m)) a
    ∙ ap are_flows (ring-more new next (n - 1))
    ∙ flows-and (ring_of new next (n - 1)) (get_or new (place next (n - 1)) 0) (ap are_flows kept ∙ (flows-first order first n f h e).1) last

pub same-flows : {first first' n n' : ℕ} (order : List ℕ) → first' ≡ first → n' ≡ n → are_flows (ring_of order first n) ≡ true →
    are_flows (ring_of order first' n') ≡ true
same-flows {first = first} {n' = n'} order a b e = ap (λ p. are_flows (ring_of order p n')) a ∙ ap (λ m. are_flows (ring_of order first m))
    b ∙ e

abbrev pub rotated_lists : Lists → Lists
rotated_lists l = record { first = place l.first 1; old = l.old; listed = l.listed }

abbrev pub left_lists : Lists → Lists
left_lists l = record { first = place l.first 1; old = l.old - 1; listed = l.listed - 1 }

pub above_zero : (n : ℕ) → (n ≡ 0 → ⊥) → 0 < n
above_zero zero h = absurd (h refl)
above_zero (suc n) h = omega arith
