-- Every accepted call returns well-formed records where it is given some. 9 refuses a followed link to no slot, so nothing is asked of the
-- tables.
use mathlib.Core.Path.{◌≡◌, refl, sym, ◌∙◌}
use mathlib.Core.Bool.{Bool, true, false, ◌&&◌}
use mathlib.Core.Logic.{◌≢◌}
use mathlib.Core.List.{List}
use Prim.Native.Nat.{ℕ, ◌+◌, ◌≤◌, ◌<◌}
use native.Mathlib.Omega.{arith}
use lib.Dec.{eqb, leb, ltb}
use lib.ListN.{get_or, length}
use borrow.Author.Tests.{eqb-false, leb-false, leb-true, ltb-false, not-false}
use Rattle.laws.proofs.Choice.{at-cond}
use Rattle.laws.proofs.Tests.{or-neither}
use Rattle.pie.specs.Constants.{latest, most_verdicts}
use Rattle.pie.specs.Verdicts.{admitted, total}
use Rattle.pie.specs.declared.Verdict.{Verdict}
use Rattle.refusals.specs.Tests.{head_refused}
use Rattle.refusals.proofs.Fitting.{head-fits, size-in-range}
use Rattle.refusals.proofs.Ordered.{none-refuses}
use Rattle.ring.specs.Calls.{Call, arrive, depart, update}
use Rattle.store.specs.Following.{followed, link_refused}
use Rattle.store.specs.Put.{free_place, store_after_put}
use Rattle.store.specs.Take.{store_after_take}
use Rattle.store.specs.Words.{link_at}
use Rattle.store.specs.declared.Store.{Store}
use Rattle.pair_rules.specs.Queues.{common_slots, common_use, other, own, paired, storing}
use Rattle.pair_rules.specs.WellFormed.{well_formed}
use Rattle.pair_rules.specs.declared.Pair.{Pair}
use Rattle.pair_rules.specs.declared.State.{State}
use Rattle.pair_rules.specs.declared.Which.{Which}
use Rattle.pair_rules.specs.declared.Which.TheVariants.{Intercom, Passengers}
use Rattle.pair_rules.proofs.Facts.{Facts, QueueFits, facts}
use Rattle.pair_rules.proofs.Kept.{arrived-fits, departed-fits, ticked-fits}
use Rattle.pair_rules.proofs.WhenAccepted.{admitted-room}
use Rattle.pair_rules.specs.Arrival.{arrival_refusals, arrived_state, arrived_store, slots_full, verdict_of}
use Rattle.pair_rules.specs.Departure.{departed_state, departure_refusals, head_size}
use Rattle.pair_rules.specs.Tick.{tick_refusals, ticked_state}
use Rattle.pair_guarantees.specs.Kept.{Kept}
use Rattle.pair_guarantees.proofs.Kept.{Room, changed-formed, held-total, no_more, own-fits, room}
use Rattle.pair_guarantees.proofs.Replies.{acceptance, by_number, number_given}

-- ── what is followed ──

followed-fits : (slots : ℕ) (sizes : List ℕ) (place count : ℕ) → place < slots → link_refused slots sizes place count ≡ false →
    followed sizes place count < slots
followed-fits slots sizes place count h e = go (leb 2 count) refl
  where
    go : (t : Bool) → leb 2 count ≡ t → followed sizes place count < slots
    go true f = rw f (leb-false slots (link_at sizes place) (rw f at e))
    go false f = rw f h

-- ── an accepted call ──

module _ (p : Pair) (w : Which) (h : well_formed p ≡ true) where
  abbrev o : State
  o = own w p

  abbrev sh : Store
  sh = p.shared.store

  f : Facts p
  f = facts p h

  module _ (handles sizes : List ℕ) (clock size : ℕ) (ecn : Bool) (u : ℕ)
      (e : number_given p w (arrive handles sizes clock 0 size ecn u) ≡ 0) where
    abbrev v : Verdict
    v = verdict_of p w size ecn u

    abbrev place : ℕ
    place = free_place sh

    abbrev arrived : State
    arrived = arrived_state o clock size place v

    tests : (i : ℕ) → (get_or (arrival_refusals p w (length handles) sizes clock size ecn u) i (0, false)).1 ≡ false
    tests = none-refuses (arrival_refusals p w (length handles) sizes clock size ecn u) refl e

    free : Room w p → place < p.shared.slots
    free r =
        at-cond (λ n. n < p.shared.slots) (leb 1 sh.spare) (λ t. f.shared.freed-high)
        (λ t. let none = leb-false 1 sh.spare t in omega (arith, r.free, held-total w p f))

    fits : QueueFits p.shared.slots arrived
    fits =
        let k = own-fits w p f in
        let time = or-neither (ltb clock o.clock.0) (ltb latest clock) (tests 2) in
        let range = size-in-range size (tests 3) in
        let low : total o.verdicts ≢ most_verdicts = eqb-false _ _ (tests 4) in
        arrived-fits p w clock size place ecn u k (ltb-false _ _ time.0) (ltb-false _ _ time.1) range.0 range.1
        (omega (arith, k.total-high))
        (λ a. let r = room w p f (admitted-room p w size ecn u a).1 in (omega (arith, r.free), free r))

    -- the store with one slot taken
    record Taken (s : Store) : Type 0 where
      freed : s.freed < p.shared.slots
      used : s.used ≤ p.shared.slots
      counted : o.backlog.count + 1 + (other w p).backlog.count + s.spare ≡ s.used

    taken : Room w p → link_refused p.shared.slots sizes sh.freed sh.spare ≡ false → Taken (store_after_put sh sizes)
    unfolding store_after_put
    taken r link =
        let held = held-total w p f in
        at-cond Taken (leb 1 sh.spare)
        (λ t.
        let some = leb-true 1 sh.spare t in
        record {
          freed = followed-fits p.shared.slots sizes sh.freed sh.spare f.shared.freed-high link;
          used = f.shared.used_high;
          counted = omega arith;
        })
        (λ t.
        let none = leb-false 1 sh.spare t in
        let r-free = r.free in
        record { freed = f.shared.freed-high; used = omega arith; counted = omega arith })

    arrived-formed : well_formed (paired w (storing p.shared (arrived_store sh sizes v)) arrived (other w p)) ≡ true
    unfolding arrived_store arrived_state
    arrived-formed =
        at-cond (λ store. well_formed (paired w (storing p.shared store) arrived (other w p)) ≡ true) (admitted v) enters stays
      where
        enters : admitted v ≡ true → well_formed (paired w (storing p.shared (store_after_put sh sizes)) arrived (other w p)) ≡ true
        enters a =
            let r = room w p f (admitted-room p w size ecn u a).1 in
            let t = taken r (rw a at (tests 5)) in
            let count : arrived.backlog.count ≡ o.backlog.count + 1 = rw a in
            changed-formed w p (store_after_put sh sizes) arrived f fits t.freed t.used (omega (arith, t.counted))
            (r.common (store_after_put sh sizes) arrived count)

        stays : admitted v ≡ false → well_formed (paired w (storing p.shared sh) arrived (other w p)) ≡ true
        stays a =
            let count : arrived.backlog.count ≡ o.backlog.count = rw a in
            changed-formed w p sh arrived f fits f.shared.freed-high f.shared.used_high (omega (arith, held-total w p f))
            (no_more w p sh arrived f (omega arith))

  departed-formed : (handles sizes : List ℕ) (clock : ℕ) → number_given p w (depart handles sizes clock) ≡ 0 →
      well_formed (acceptance p w (depart handles sizes clock)).pair ≡ true
  unfolding departed_state
  departed-formed handles sizes clock e =
      let at = none-refuses (departure_refusals p w (length handles) sizes clock) refl e in
      let size = head_size o sizes in
      let k = own-fits w p f in
      let time = or-neither (ltb clock o.clock.0) (ltb latest clock) (at 2) in
      let some : o.backlog.count ≢ 0 = eqb-false _ _ (at 3) in
      let word =
      or-neither (head_refused o.backlog size) (link_refused p.shared.slots sizes o.ends.head o.backlog.count) (at 4) in
      let next = followed-fits p.shared.slots sizes o.ends.head o.backlog.count k.head-high word.1 in
      let fits =
      departed-fits p.shared.slots o sizes clock size f.shared.slots-low f.shared.slots-high k
      (ltb-false _ _ time.0) (ltb-false _ _ time.1) (omega arith) (head-fits o.backlog size word.0) next in
      let store = store_after_take sh o.ends.head in
      let gone = departed_state o sizes clock size in
      changed-formed w p store gone f fits k.head-high f.shared.used_high (omega (arith, held-total w p f))
      (no_more w p store gone f (omega arith))

  ticked-formed : (clock : ℕ) → number_given p w (update clock) ≡ 0 → well_formed (acceptance p w (update clock)).pair ≡ true
  unfolding ticked_state
  ticked-formed clock e =
      let at = none-refuses (tick_refusals p w clock) refl e in
      let time = or-neither (ltb clock o.clock.0) (ltb latest clock) (at 1) in
      let fits =
      ticked-fits p.shared.slots o clock f.shared.slots-low f.shared.slots-high (own-fits w p f)
      (ltb-false _ _ time.0) (ltb-false _ _ time.1) (ltb-false _ _ (at 2)) in
      changed-formed w p sh (ticked_state o clock) f fits f.shared.freed-high f.shared.used_high (omega (arith, held-total w p f))
      (no_more w p sh (ticked_state o clock) f (omega arith))

  accepted-formed : (c : Call) → number_given p w c ≡ 0 → well_formed (acceptance p w c).pair ≡ true
  accepted-formed (arrive handles sizes clock handle size ecn u) e = arrived-formed handles sizes clock size ecn u e
  accepted-formed (depart handles sizes clock) e = departed-formed handles sizes clock e
  accepted-formed (update clock) e = ticked-formed clock e

-- 2 refuses records that are not
given-formed : (p : Pair) (w : Which) (c : Call) → number_given p w c ≡ 0 → well_formed p ≡ true
given-formed p w (arrive handles sizes clock handle size ecn u) e =
    not-false (well_formed p) (none-refuses (arrival_refusals p w (length handles) sizes clock size ecn u) refl e 0)
given-formed p w (depart handles sizes clock) e =
    not-false (well_formed p) (none-refuses (departure_refusals p w (length handles) sizes clock) refl e 0)
given-formed p w (update clock) e = not-false (well_formed p) (none-refuses (tick_refusals p w clock) refl e 0)

pub kept : Kept
kept p w c =
    by_number (λ r. well_formed r.pair ≡ well_formed p) p w c (λ n some given. refl)
    (λ e. let h = given-formed p w c e in accepted-formed p w h c e ∙ sym h)
