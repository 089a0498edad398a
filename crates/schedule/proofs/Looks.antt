-- A look at the ring: what stands at the heads of its two lists, and what is read off it after a move.
use mathlib.Core.Path.{◌≡◌, refl, ap, sym, ◌∙◌}
use mathlib.Core.Bool.{Bool, true, false, cond}
use mathlib.Core.List.{List, [], ◌∷◌, ◌++◌}
use Prim.Native.Nat.{ℕ, suc, ◌+◌, ◌-◌, ◌≤◌, ◌<◌}
use native.Mathlib.Omega.{arith}
use lib.Dec.{eqb, ltb}
use lib.ListN.{length, length-set, set}
use borrow.Author.Tests.{eqb-true, eqb-false, ltb-true, ltb-false}
use Rattle.schedule.specs.Choosing.{
  Look,
  at_new,
  at_old,
  has_none,
  look,
  look_new,
  look_old,
  moves,
  new_goes_old,
  nobody,
  old_goes_last,
  old_leaves,
  owes,
  raised,
  serves,
}
use Rattle.schedule.specs.InRing.{Holds, Ring64}
use Rattle.schedule.specs.Passing.{Found, after_look, new_head, old_head}
use Rattle.schedule.specs.Ring.{Schedule, moved_in, new_list, old_list, place, ring_of, schedule_of, turned, two_lists}
use Rattle.schedule.specs.TwoLists.{lists}
use Rattle.schedule.proofs.Facts.{ListFacts, facts, lists-fit}
use Rattle.schedule.proofs.Moves.{above_zero}
use Rattle.schedule.proofs.Ring.{place-lt, place-next, ring-end, ring-head, ring-more, ring-none}

module _ (s : Schedule) where
  -- ── the heads ──

  -- behind the head of the new list
  abbrev pub rest_of : List ℕ
  rest_of = ring_of s.order (place s.lists.first (s.lists.old + 1)) (s.lists.listed - (s.lists.old + 1))

  new-list : s.lists.old < s.lists.listed → new_list s ≡ new_head s ∷ rest_of
  new-list h =
      let first = s.lists.first in
      let old = s.lists.old in
      let n = s.lists.listed - (old + 1) in
      let k : s.lists.listed - old ≡ suc n = omega arith in
      ap (ring_of s.order (place first old)) k
      ∙ ring-head s.order (place first old) n (place-lt first old)
      ∙ ap (λ p. new_head s ∷ ring_of s.order p n) (place-next first old 1)

  -- behind the head of the old list, where there is no new one
  abbrev pub others_of : List ℕ
  others_of = ring_of s.order (place s.lists.first 1) (s.lists.listed - 1)

  no-new : s.lists.old ≡ s.lists.listed → new_list s ≡ []
  no-new e = ring-none s.order (place s.lists.first s.lists.old) (s.lists.listed - s.lists.old) (omega (arith, e))

  old-list : s.lists.first < 64 → s.lists.old ≡ s.lists.listed → 0 < s.lists.listed → old_list s ≡ old_head s ∷ others_of
  old-list f e h =
      let k : s.lists.old ≡ suc (s.lists.listed - 1) = omega (arith, e) in
      ap (ring_of s.order s.lists.first) k ∙ ring-head s.order s.lists.first (s.lists.listed - 1) f

  module _ (counts : List ℕ) where
    pub look-new : s.lists.old < s.lists.listed →
        look counts (two_lists s) ≡ at_new counts (new_head s) rest_of (old_list s) s.deficits
    unfolding look
    look-new h = ap (look_new counts s.deficits (old_list s)) (new-list h)

    pub look-old : s.lists.first < 64 → s.lists.old ≡ s.lists.listed → 0 < s.lists.listed →
        look counts (two_lists s) ≡ at_old counts (old_head s) others_of s.deficits
    unfolding look
    look-old f e h = ap (look_new counts s.deficits (old_list s)) (no-new e) ∙ ap (look_old counts s.deficits) (old-list f e h)

    pub look_none : s.lists.old ≡ 0 → s.lists.listed ≡ 0 → look counts (two_lists s) ≡ nobody
    unfolding look
    look_none a b =
        ap (look_new counts s.deficits (old_list s)) (no-new (a ∙ sym b))
        ∙ ap (look_old counts s.deficits) (ring-none s.order s.lists.first s.lists.old a)

  -- ── what is read after a move ──

  pub read-new : (ds : List ℕ) → two_lists (moved_in s new_goes_old ds) ≡ lists rest_of (old_list s ++ new_head s ∷ []) ds
  read-new ds = ap (λ o. lists rest_of o ds) (ring-more s.order s.lists.first s.lists.old)

  turned-ring : length s.order ≡ 64 → 0 < s.lists.listed → s.lists.listed ≤ 64 →
      ring_of (set s.order (place s.lists.first s.lists.listed) (old_head s)) (place s.lists.first 1) s.lists.listed
      ≡ others_of ++ old_head s ∷ []
  turned-ring l h k =
      let first = s.lists.first in
      let len = s.lists.listed in
      let a : len ≡ suc (len - 1) = omega arith in
      let b : place first len ≡ place (place first 1) (len - 1) = omega arith in
      ap (λ p. ring_of (set s.order p (old_head s)) (place first 1) len) b
      ∙ ap (ring_of (set s.order (place (place first 1) (len - 1)) (old_head s)) (place first 1)) a
      ∙ ring-end s.order (place first 1) (len - 1) (old_head s) l (omega arith)

  pub read-last : (ds : List ℕ) → length s.order ≡ 64 → s.lists.old ≡ s.lists.listed → 0 < s.lists.listed → s.lists.listed ≤ 64 →
      two_lists (moved_in s old_goes_last ds) ≡ lists [] (others_of ++ old_head s ∷ []) ds
  read-last ds l e h k =
      let first = s.lists.first in
      let order = set s.order (place first s.lists.listed) (old_head s) in
      let old = ring_of order (place first 1) s.lists.old in
      ap (λ n. lists n old ds)
      (ring-none order (place (place first 1) s.lists.old) (s.lists.listed - s.lists.old) (omega (arith, e)))
      ∙ ap (λ n. lists [] (ring_of order (place first 1) n) ds) e
      ∙ ap (λ o. lists [] o ds) (turned-ring l h k)

  pub read_left : (ds : List ℕ) → s.lists.old ≡ s.lists.listed → two_lists (moved_in s old_leaves ds) ≡ lists [] others_of ds
  read_left ds e =
      let first = s.lists.first in
      let old = s.lists.old in
      let len = s.lists.listed in
      ap (λ n. lists n (ring_of s.order (place first 1) (old - 1)) ds)
      (ring-none s.order (place (place first 1) (old - 1)) (len - 1 - (old - 1)) (omega (arith, e)))
      ∙ ap (λ n. lists [] (ring_of s.order (place first 1) (n - 1)) ds) e

-- what is written where the old list's head goes to its end
pub last_written : (counts : List ℕ) (s : Schedule) (flow : ℕ) (rest : List ℕ) (again : Schedule → Found) →
    flow ≡ old_head s → owes s.deficits flow ≡ true →
    after_look again s (at_old counts flow rest s.deficits)
    ≡ again (schedule_of (turned s old_goes_last).lists (set s.order (place s.lists.first s.lists.listed) flow)
    (raised s.deficits flow))
last_written counts s flow rest again e owe =
    rw owe
    (ap (λ x. again (schedule_of (turned s old_goes_last).lists (set s.order (place s.lists.first s.lists.listed) x)
    (raised s.deficits flow)))
    (sym e))

-- ── what a look leads to ──

-- the lists that are read after a move are those of the rule
abbrev pub Reads : Schedule → Look → Type 0
Reads s nobody = Unit {0}
Reads s (serves flow) = Unit {0}
Reads s (moves m next) = two_lists (moved_in s m next.deficits) ≡ next

-- and the ring still has 64 places
abbrev pub Leads : Schedule → Look → Type 0
Leads s nobody = Unit {0}
Leads s (serves flow) = Unit {0}
Leads s (moves m next) = Holds (moved_in s m next.deficits) next

pub leads-reads : (s : Schedule) (l : Look) → Leads s l → Reads s l
leads-reads s nobody k = tt
leads-reads s (serves flow) k = tt
leads-reads s (moves m next) k = k.reads

module _ (counts : List ℕ) (s : Schedule) (h : Ring64 s) where
  f : ListFacts s.lists
  f = facts s.lists h.fits

  at_new_lem : s.lists.old < s.lists.listed → Leads s (at_new counts (new_head s) (rest_of s) (old_list s) s.deficits)
  at_new_lem p = go (owes s.deficits (new_head s)) (has_none counts (new_head s))
    where
      moved : (ds : List ℕ) → Holds (moved_in s new_goes_old ds) (lists (rest_of s) (old_list s ++ new_head s ∷ []) ds)
      moved ds =
          record {
            ring =
                record {
                  long = h.long;
                  fits = lists-fit (turned s new_goes_old).lists f.first-lt (omega (arith, p)) f.listed_le;
                };
            reads = read-new s ds;
          }

      go : (a b : Bool) →
          Leads s
          (cond a (moves new_goes_old (lists (rest_of s) (old_list s ++ new_head s ∷ []) (raised s.deficits (new_head s))))
          (cond b (moves new_goes_old (lists (rest_of s) (old_list s ++ new_head s ∷ []) s.deficits)) (serves (new_head s))))
      go true b = moved (raised s.deficits (new_head s))
      go false true = moved s.deficits
      go false false = tt

  at_old_lem : s.lists.old ≡ s.lists.listed → 0 < s.lists.listed → Leads s (at_old counts (old_head s) (others_of s) s.deficits)
  at_old_lem e p = go (owes s.deficits (old_head s)) (has_none counts (old_head s))
    where
      last : (ds : List ℕ) → Holds (moved_in s old_goes_last ds) (lists [] (others_of s ++ old_head s ∷ []) ds)
      last ds =
          record {
            ring =
                record {
                  long = length-set s.order _ _ ∙ h.long;
                  fits = lists-fit (turned s old_goes_last).lists (place-lt s.lists.first 1) f.old-le f.listed_le;
                };
            reads = read-last s ds h.long e p f.listed_le;
          }

      left : (ds : List ℕ) → Holds (moved_in s old_leaves ds) (lists [] (others_of s) ds)
      left ds =
          record {
            ring =
                record {
                  long = h.long;
                  fits = lists-fit (turned s old_leaves).lists (place-lt s.lists.first 1) (omega (arith, f.old-le))
                      (omega (arith, f.listed_le));
                };
            reads = read_left s ds e;
          }

      go : (a b : Bool) →
          Leads s
          (cond a (moves old_goes_last (lists [] (others_of s ++ old_head s ∷ []) (raised s.deficits (old_head s))))
          (cond b (moves old_leaves (lists [] (others_of s) s.deficits)) (serves (old_head s))))
      go true b = last (raised s.deficits (old_head s))
      go false true = left s.deficits
      go false false = tt

  pub look-leads : Leads s (look counts (two_lists s))
  look-leads = go (ltb s.lists.old s.lists.listed) refl
    where
      empty : (b : Bool) → eqb s.lists.listed 0 ≡ b → s.lists.old ≡ s.lists.listed → Leads s (look counts (two_lists s))
      empty true e same =
          let none = eqb-true s.lists.listed 0 e in rw (look_none s counts (same ∙ none) none) tt
      empty false e same =
          let some = above_zero s.lists.listed (eqb-false s.lists.listed 0 e) in
          rw (look-old s counts f.first-lt same some) (at_old_lem same some)

      go : (b : Bool) → ltb s.lists.old s.lists.listed ≡ b → Leads s (look counts (two_lists s))
      go true e = let p = ltb-true s.lists.old s.lists.listed e in rw (look-new s counts p) (at_new_lem p)
      go false e =
          empty (eqb s.lists.listed 0) refl (omega (arith, ltb-false s.lists.old s.lists.listed e, f.old-le))
