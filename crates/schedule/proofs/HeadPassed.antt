-- A look at the head of the lists that writes nothing: it ends the choosing, or passes an emptied flow.
use mathlib.Core.Path.{◌≡◌, refl, ap, sym, ◌∙◌}
use Rattle.std.specs.Prelude.{Some, None}
use mathlib.Core.Bool.{Bool, true, false, cond}
use mathlib.Core.List.{List, [], ◌∷◌, ◌++◌}
use Prim.Native.Nat.{ℕ, ◌+◌, ◌-◌, ◌<◌}
use native.Mathlib.Omega.{arith}
use lib.Dec.{eqb, ltb}
use lib.ListN.{get_or}
use borrow.Author.Tests.{eqb-false, eqb-true, ltb-true, ltb-false}
use Rattle.schedule.specs.Choosing.{Look, at_new, at_old, look, moves, new_goes_old, nobody, old_leaves, serves}
use Rattle.schedule.specs.Passing.{found, found_in, head_of, new_head, old_head, without_head}
use Rattle.schedule.specs.Ring.{Schedule, deficit_of, old_list, ring_of, schedule_of, two_lists}
use Rattle.schedule.specs.TwoLists.{lists, zero_deficit}
use Rattle.schedule.specs.WellFormed.{are_flows, lists_fit}
use Rattle.schedule.specs.declared.Lists.{Lists}
use Rattle.schedule.proofs.Chosen.{ends_at, goes_on}
use Rattle.schedule.proofs.Facts.{ListFacts, facts, lists-fit}
use Rattle.schedule.proofs.Flows.{flows-first}
use Rattle.schedule.proofs.Looks.{look-new, look_none, look-old, others_of, read_left, read-new, rest_of}
use Rattle.schedule.proofs.Moves.{above_zero, left_lists}
use Rattle.schedule.proofs.Ring.{place-lt}

module _ (counts : List ℕ) (s : Schedule) (looks : ℕ) (some : 0 < looks) (f : ListFacts s.lists) where
  pub none-listed : eqb s.lists.listed 0 ≡ true → found_in looks counts s ≡ found 0 s
  none-listed e =
      let none : s.lists.listed ≡ 0 = eqb-true s.lists.listed 0 e in
      ends_at counts s s looks (Some 0) some nobody (look_none s counts (omega (arith, none, f.old-le)) none) tt (λ again. refl) 0 refl

  module _ (flow : ℕ) (at : flow ≡ head_of s) (listed : eqb s.lists.listed 0 ≡ false)
      (high : ltb (deficit_of s flow) zero_deficit ≡ false) where
    -- the new list is empty
    only-old : ltb s.lists.old s.lists.listed ≡ false → (s.lists.old ≡ s.lists.listed) × (0 < s.lists.listed)
    only-old e = (
      omega (arith, ltb-false s.lists.old s.lists.listed e, f.old-le),
      above_zero s.lists.listed (eqb-false s.lists.listed 0 listed),
    )

    -- a flow at the head that is not below 0 and has a packet is served
    pub head-served : eqb (get_or counts flow 0) 0 ≡ false → found_in looks counts s ≡ found flow s
    head-served full =
        ends_at counts s s looks (Some flow) some (serves flow) (go (ltb s.lists.old s.lists.listed) refl) tt (λ again. refl) flow refl
      where
        go : (b : Bool) → ltb s.lists.old s.lists.listed ≡ b → look counts (two_lists s) ≡ serves flow
        go true e =
            let new : flow ≡ new_head s = at ∙ ap (λ b. cond b (new_head s) (old_head s)) e in
            look-new s counts (ltb-true s.lists.old s.lists.listed e) ∙ rw (← new) (simp (high, full) refl)
        go false e =
            let old : flow ≡ old_head s = at ∙ ap (λ b. cond b (new_head s) (old_head s)) e in
            let k = only-old e in
            look-old s counts f.first-lt k.0 k.1 ∙ rw (← old) (simp (high, full) refl)

    abbrev pub passed : Schedule
    passed = schedule_of (without_head s.lists) s.order s.deficits

    -- one that has no packet is passed
    pub head_passed : eqb (get_or counts flow 0) 0 ≡ true → found_in looks counts s ≡ found_in (looks - 1) counts passed
    head_passed empty = go (ltb s.lists.old s.lists.listed) refl
      where
        go : (b : Bool) → ltb s.lists.old s.lists.listed ≡ b → found_in looks counts s ≡ found_in (looks - 1) counts passed
        go true e =
            let new : flow ≡ new_head s = at ∙ ap (λ b. cond b (new_head s) (old_head s)) e in
            let l : Look = moves new_goes_old (two_lists passed) in
            let read : lists (rest_of s) (old_list s ++ new_head s ∷ []) s.deficits ≡ two_lists passed = rw e
            (sym (read-new s s.deficits)) in
            let found : at_new counts (new_head s) (rest_of s) (old_list s) s.deficits
            ≡ moves new_goes_old (lists (rest_of s) (old_list s ++ new_head s ∷ []) s.deficits) =
            simp (rw new at high, rw new at empty) refl in
            let k : look counts (two_lists s) ≡ l =
            look-new s counts (ltb-true s.lists.old s.lists.listed e) ∙ found ∙ ap (moves new_goes_old) read in
            goes_on counts s passed looks None some l k (rw e refl) (λ again. rw e refl) refl
        go false e =
            let old : flow ≡ old_head s = at ∙ ap (λ b. cond b (new_head s) (old_head s)) e in
            let o = only-old e in
            let l : Look = moves old_leaves (two_lists passed) in
            let read : lists [] (others_of s) s.deficits ≡ two_lists passed = rw e (sym (read_left s s.deficits o.0)) in
            let found : at_old counts (old_head s) (others_of s) s.deficits ≡ moves old_leaves (lists [] (others_of s) s.deficits) =
            simp (rw old at high, rw old at empty) refl in
            let k : look counts (two_lists s) ≡ l = look-old s counts f.first-lt o.0 o.1 ∙ found ∙ ap (moves old_leaves) read in
            goes_on counts s passed looks None some l k (rw e refl) (λ again. rw e refl) refl

-- then the lists are as well formed as before
pub still-fit : (order : List ℕ) (l : Lists) → lists_fit l ≡ true → 0 < l.listed → are_flows (ring_of order l.first l.listed) ≡ true →
    (lists_fit (without_head l) ≡ true) × (are_flows (ring_of order (without_head l).first (without_head l).listed) ≡ true)
still-fit order l h some flows = go (ltb l.old l.listed) refl
  where
    go : (b : Bool) → ltb l.old l.listed ≡ b →
        (lists_fit (without_head l) ≡ true) × (are_flows (ring_of order (without_head l).first (without_head l).listed) ≡ true)
    go true e =
        let f = facts l h in
        let low = ltb-true l.old l.listed e in
        let next : Lists = record { first = l.first; old = l.old + 1; listed = l.listed } in
        rw e (lists-fit next f.first-lt (omega (arith, low)) f.listed_le, flows)
    go false e =
        let f = facts l h in
        rw e (
          lists-fit (left_lists l) (place-lt l.first 1) (omega (arith, f.old-le)) (omega (arith, f.listed_le)),
          (flows-first order l.first l.listed f.first-lt some flows).1,
        )
