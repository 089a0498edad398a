-- The ring stands for the two lists.
use mathlib.Core.Path.{◌≡◌, refl, ap, ◌∙◌}
use mathlib.Core.Bool.{true}
use mathlib.Core.List.{List, [], ◌∷◌, ◌++◌}
use Prim.Native.Nat.{ℕ, zero, suc, ◌+◌, ◌-◌, ◌<◌}
use native.Mathlib.Omega.{arith}
use lib.Dec.{eqb}
use lib.ListN.{length, length-set, set}
use borrow.Author.Tests.{eqb-true, not-false}
use Rattle.schedule.specs.Choosing.{Look, after, choose_in, chosen, look, moves, nobody, serves}
use Rattle.schedule.specs.Entering.{entered}
use Rattle.schedule.specs.InRing.{ChoosesInRing, EntersInRing, Holds, MovesInRing, Ring64}
use Rattle.schedule.specs.Passing.{found_in}
use Rattle.schedule.specs.Ring.{Schedule, chosen_in, entered_in, new_list, place, ring_of, two_lists}
use Rattle.schedule.specs.TwoLists.{listed, lists, quantum, zero_deficit}
use Rattle.schedule.specs.WellFormed.{lists_fit, well_listed}
use Rattle.schedule.proofs.Chosen.{led-in, unmoved}
use Rattle.schedule.proofs.Facts.{ListFacts, facts, lists-fit}
use Rattle.schedule.proofs.Looks.{Leads, look-leads}
use Rattle.schedule.proofs.Ring.{length-ring, ring-end, ring-set}
use Rattle.schedule.proofs.Tallied.{lists_of, well-of-ring}
use Rattle.schedule.proofs.Totals.{room}

-- ── choosing ──

stays : (s : Schedule) → Ring64 s → (flow : ℕ) → Holds (chosen_in s (chosen flow (two_lists s))) (two_lists s)
stays s h flow = rw (unmoved s flow) (record { ring = h; reads = refl })

pub moves-in-ring : MovesInRing
moves-in-ring counts s m next h e = rw e at (look-leads counts s h)

pub chooses-in-ring : ChoosesInRing
unfolding choose_in
chooses-in-ring zero counts s h = stays s h 0
chooses-in-ring (suc n) counts s h = go (look counts (two_lists s)) (look-leads counts s h) (chooses-in-ring n counts)
  where
    go : (l : Look) → Leads s l →
        ((t : Schedule) → Ring64 t → Holds (chosen_in t (choose_in n counts (two_lists t))) (choose_in n counts (two_lists t)).lists) →
        let c = after (choose_in n counts) (two_lists s) l in Holds (chosen_in s c) c.lists
    go nobody k again = stays s h 0
    go (serves flow) k again = stays s h flow
    go (moves m next) k again =
        rw (led-in s m next.deficits (choose_in n counts next))
        (rw k.reads at (again _ k.ring))

-- of a ring that is found to be the choice's
pub read_found : (looks : ℕ) (counts : List ℕ) (s t : Schedule) → Ring64 s → t ≡ (found_in looks counts s).schedule →
    two_lists t ≡ (choose_in looks counts (two_lists s)).lists
read_found looks counts s t h e = ap two_lists e ∙ (chooses-in-ring looks counts s h).reads

-- ── a flow enters ──

module _ (counts : List ℕ) (s : Schedule) (flow : ℕ) (long : length s.order ≡ 64) (h : well_listed counts s ≡ true) where
  fit : lists_fit s.lists ≡ true
  fit = lists_of counts s h

  f : ListFacts s.lists
  f = facts s.lists fit

  -- there is a place behind the last
  free : flow < 64 → listed flow (two_lists s) ≡ 0 → s.lists.listed < 64
  free low out =
      omega (
        arith,
        room counts (two_lists s) (well-of-ring counts s h) flow low out,
        length-ring s.order s.lists.first s.lists.old,
        length-ring s.order (place s.lists.first s.lists.old) (s.lists.listed - s.lists.old),
        f.old-le,
      )

  reads-entered : s.lists.listed < 64 → two_lists (entered_in s flow) ≡ entered (two_lists s) flow
  unfolding entered entered_in
  reads-entered some =
      let first = s.lists.first in
      let old = s.lists.old in
      let len = s.lists.listed in
      let ds = set s.deficits flow (zero_deficit + quantum) in
      let order = set s.order (place first len) flow in
      let a : len + 1 - old ≡ suc (len - old) = omega (arith, f.old-le) in
      let b : place first len ≡ place (place first old) (len - old) = omega (arith, f.old-le) in
      let new : ring_of order (place first old) (len + 1 - old) ≡ new_list s ++ flow ∷ [] =
      ap (ring_of order (place first old)) a
      ∙ ap (λ p. ring_of (set s.order p flow) (place first old) (suc (len - old))) b
      ∙ ring-end s.order (place first old) (len - old) flow long (omega (arith, f.old-le)) in
      ap (λ n. lists n (ring_of order first old) ds) new
      ∙ ap (λ o. lists (new_list s ++ flow ∷ []) o ds) (ring-set s.order first old len flow f.old-le some)

  ring-entered : s.lists.listed < 64 → Ring64 (entered_in s flow)
  unfolding entered_in
  ring-entered some =
      record {
        long = length-set s.order _ flow ∙ long;
        fits = lists-fit (entered_in s flow).lists f.first-lt (omega (arith, f.old-le)) (omega (arith, some));
      }

pub enters-in-ring : EntersInRing
enters-in-ring counts s flow long h low out =
    let none = eqb-true (listed flow (two_lists s)) 0 (not-false (eqb (listed flow (two_lists s)) 0) out) in
    let some = free counts s flow long h low none in
    record { ring = ring-entered counts s flow long h some; reads = reads-entered counts s flow long h some }
