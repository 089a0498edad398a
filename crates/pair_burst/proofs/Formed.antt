-- A call on well-formed records returns well-formed ones, whatever the tables hold.
use mathlib.Core.Path.{◌≡◌, refl}
use mathlib.Core.Bool.{Bool, true, false, cond, ◌&&◌}
use mathlib.Core.Logic.{◌≢◌}
use mathlib.Core.List.{List}
use Prim.Native.Nat.{ℕ, zero, suc, ◌+◌, ◌≤◌, ◌<◌}
use native.Mathlib.Omega.{arith}
use lib.Dec.{leb, ltb}
use lib.ListN.{length}
use borrow.Author.Tests.{eqb-false, leb-false, leb-true, ltb-false}
use Rattle.laws.proofs.Choice.{at-cond}
use Rattle.laws.proofs.Tests.{or-neither}
use Rattle.pie.specs.Constants.{latest, most_verdicts}
use Rattle.pie.specs.Verdicts.{admitted, total}
use Rattle.pie.specs.declared.Verdict.{Verdict}
use Rattle.refusals.proofs.Fitting.{head-fits, size-in-range}
use Rattle.refusals.proofs.Ordered.{none-refuses}
use Rattle.refusals.specs.Tests.{head_refused}
use Rattle.store.specs.Following.{followed, link_refused}
use Rattle.store.specs.Put.{free_place, store_after_put}
use Rattle.store.specs.Take.{store_after_take}
use Rattle.store.specs.Words.{link_at}
use Rattle.store.specs.declared.Store.{Store}
use Rattle.calls.specs.Requests.{Request, ask_arrival, ask_departure, ask_tick}
use Rattle.pair_rules.specs.Answer.{Reply}
use Rattle.pair_rules.specs.Queues.{common_slots, common_use, other, own, paired, storing}
use Rattle.pair_rules.specs.WellFormed.{well_formed}
use Rattle.pair_rules.specs.declared.Pair.{Pair}
use Rattle.pair_rules.specs.declared.State.{State}
use Rattle.pair_rules.specs.declared.Which.{Which}
use Rattle.pair_rules.proofs.Facts.{Facts, QueueFits, facts}
use Rattle.pair_rules.specs.Answer.{unless_refused}
use Rattle.pair_rules.specs.Arrival.{arrival, arrival_refusal, arrival_refusals, arrived_state, arrived_store, verdict_of}
use Rattle.pair_rules.specs.Departure.{departed_state, departure, departure_refusal, departure_refusals, head_size}
use Rattle.pair_rules.specs.Tick.{tick, tick_refusal, tick_refusals, ticked_state}
use Rattle.pair_rules.proofs.Kept.{arrived-fits, departed-fits, ticked-fits}
use Rattle.pair_rules.proofs.WhenAccepted.{admitted-room}
use Rattle.pair_guarantees.specs.Handed.{Queues, reply_to}
use Rattle.pair_guarantees.proofs.Kept.{changed-formed, held-total, no_more, own-fits, room}

abbrev Formed : Reply → Type 0
Formed r = well_formed r.pair ≡ true

unless : (n : ℕ) (p : Pair) (r : Reply) → well_formed p ≡ true → (n ≡ 0 → Formed r) → Formed (unless_refused n p r)
unless zero p r given h = h refl
unless (suc n) p r given h = given

-- a link that is followed and not refused leads to a slot
followed-low : (slots : ℕ) (sizes : List ℕ) (place count : ℕ) → place < slots → link_refused slots sizes place count ≡ false →
    followed sizes place count < slots
followed-low slots sizes place count low e = go (leb 2 count) e
  where
    go : (b : Bool) → b && leb slots (link_at sizes place) ≡ false → cond b (link_at sizes place) place < slots
    go true k = leb-false slots (link_at sizes place) k
    go false k = low

-- what an accepted arrival leaves of the store
record Stored (slots held : ℕ) (store : Store) : Type 0 where
  freed : store.freed < slots
  used : store.used ≤ slots
  all : held + store.spare ≡ store.used

put-stored : (slots held : ℕ) (store : Store) (sizes : List ℕ) → Stored slots held store → held < slots →
    link_refused slots sizes store.freed store.spare ≡ false → Stored slots (held + 1) (store_after_put store sizes)
unfolding store_after_put
put-stored slots held store sizes s free link =
    at-cond (Stored slots (held + 1)) (leb 1 store.spare)
    (λ some. let l = leb-true 1 store.spare some in
    record { freed = followed-low slots sizes store.freed store.spare s.freed link; used = s.used; all = omega (arith, s.all) })
    (λ none. let l = leb-false 1 store.spare none in
    record { freed = s.freed; used = omega (arith, s.all); all = omega (arith, s.all) })

module _ (p : Pair) (w : Which) (formed : well_formed p ≡ true) where
  f : Facts p
  f = facts p formed

  abbrev o : State
  o = own w p

  abbrev t : State
  t = other w p

  abbrev slots : ℕ
  slots = p.shared.slots

  stored-now : Stored slots (o.backlog.count + t.backlog.count) p.shared.store
  stored-now = record { freed = f.shared.freed-high; used = f.shared.used_high; all = held-total w p f }

  changed : (store : Store) (s : State) → QueueFits slots s → Stored slots (s.backlog.count + t.backlog.count) store →
      common_use (paired w (storing p.shared store) s t) ≤ common_slots p.shared →
      well_formed (paired w (storing p.shared store) s t) ≡ true
  changed store s fits k common = changed-formed w p store s f fits k.freed k.used k.all common

  tick-kept : (clock : ℕ) → tick_refusal p w clock ≡ 0 → well_formed (paired w p.shared (ticked_state o clock) t) ≡ true
  unfolding tick_refusal ticked_state
  tick-kept clock e =
      let at = none-refuses (tick_refusals p w clock) refl e in
      let time = or-neither (ltb clock o.clock.0) (ltb latest clock) (at 1) in
      let fits = ticked-fits slots o clock f.shared.slots-low f.shared.slots-high (own-fits w p f)
      (ltb-false _ _ time.0) (ltb-false _ _ time.1) (ltb-false _ _ (at 2)) in
      changed p.shared.store (ticked_state o clock) fits stored-now (no_more w p p.shared.store (ticked_state o clock) f (omega arith))

  tick-formed : (clock : ℕ) → Formed (tick p w clock)
  unfolding tick
  tick-formed clock = unless (tick_refusal p w clock) p _ formed (tick-kept clock)

  departure-kept : (handles sizes : List ℕ) (clock : ℕ) → departure_refusal p w (length handles) sizes clock ≡ 0 →
      well_formed (paired w (storing p.shared (store_after_take p.shared.store o.ends.head))
      (departed_state o sizes clock (head_size o sizes)) t) ≡ true
  unfolding departure_refusal departed_state
  departure-kept handles sizes clock e =
      let at = none-refuses (departure_refusals p w (length handles) sizes clock) refl e in
      let time = or-neither (ltb clock o.clock.0) (ltb latest clock) (at 2) in
      let none : o.backlog.count ≢ 0 = eqb-false _ _ (at 3) in
      let word = or-neither (head_refused o.backlog (head_size o sizes)) (link_refused slots sizes o.ends.head o.backlog.count) (at 4) in
      let k = own-fits w p f in
      let next = followed-low slots sizes o.ends.head o.backlog.count k.head-high word.1 in
      let fits = departed-fits slots o sizes clock (head_size o sizes) f.shared.slots-low f.shared.slots-high k
      (ltb-false _ _ time.0) (ltb-false _ _ time.1) (omega arith) (head-fits o.backlog (head_size o sizes) word.0) next in
      let store = store_after_take p.shared.store o.ends.head in
      let left = departed_state o sizes clock (head_size o sizes) in
      changed store left fits
      (record { freed = k.head-high; used = f.shared.used_high; all = omega (arith, held-total w p f) })
      (no_more w p store left f (omega arith))

  departure-formed : (handles sizes : List ℕ) (clock : ℕ) → Formed (departure p w handles sizes clock)
  unfolding departure
  departure-formed handles sizes clock =
      unless (departure_refusal p w (length handles) sizes clock) p _ formed (departure-kept handles sizes clock)

  -- ── an arrival ──

  module _ (handles sizes : List ℕ) (clock size : ℕ) (ecn : Bool) (u : ℕ) where
    abbrev v : Verdict
    v = verdict_of p w size ecn u

    abbrev place : ℕ
    place = free_place p.shared.store

    abbrev next : State
    next = arrived_state o clock size place v

    inside : o.backlog.count + t.backlog.count < slots → place < slots
    inside free =
        at-cond (λ n. n < slots) (leb 1 p.shared.store.spare) (λ _. f.shared.freed-high)
        (λ none. let l = leb-false 1 p.shared.store.spare none in omega (arith, held-total w p f))

    free : admitted v ≡ true → (o.backlog.count < slots) × (place < slots)
    free a = let r = room w p f (admitted-room p w size ecn u a).1 in (omega (arith, r.free), inside r.free)

    arrived-stored : (b : Bool) → admitted v ≡ b → b && link_refused slots sizes p.shared.store.freed p.shared.store.spare ≡ false →
        Stored slots (next.backlog.count + t.backlog.count) (arrived_store p.shared.store sizes v)
        × (common_use (paired w (storing p.shared (arrived_store p.shared.store sizes v)) next t) ≤ common_slots p.shared)
    unfolding arrived_state arrived_store
    arrived-stored true a link =
        let r = room w p f (admitted-room p w size ecn u a).1 in
        let k = put-stored slots (o.backlog.count + t.backlog.count) p.shared.store sizes stored-now r.free link in
        let count : next.backlog.count ≡ o.backlog.count + 1 = rw a in
        rw a (
          record { freed = k.freed; used = k.used; all = omega (arith, k.all) },
          r.common (store_after_put p.shared.store sizes) _ refl,
        )
    arrived-stored false a link = rw a (stored-now, no_more w p p.shared.store _ f (omega arith))

    arrival-kept : arrival_refusal p w (length handles) sizes clock size ecn u ≡ 0 →
        well_formed (paired w (storing p.shared (arrived_store p.shared.store sizes v)) next t) ≡ true
    unfolding arrival_refusal
    arrival-kept e =
        let at = none-refuses (arrival_refusals p w (length handles) sizes clock size ecn u) refl e in
        let time = or-neither (ltb clock o.clock.0) (ltb latest clock) (at 2) in
        let range = size-in-range size (at 3) in
        let full : total o.verdicts ≢ most_verdicts = eqb-false _ _ (at 4) in
        let fits = arrived-fits p w clock size place ecn u (own-fits w p f) (ltb-false _ _ time.0) (ltb-false _ _ time.1)
        range.0 range.1 (omega (arith, (own-fits w p f).total-high)) free in
        let k = arrived-stored (admitted v) refl (at 5) in
        changed (arrived_store p.shared.store sizes v) next fits k.0 k.1

    arrival-formed : Formed (arrival p w handles sizes clock size ecn u)
    unfolding arrival
    arrival-formed = unless (arrival_refusal p w (length handles) sizes clock size ecn u) p _ formed arrival-kept

pub reply-formed : (q : Queues) (w : Which) (r : Request) → well_formed q.pair ≡ true → well_formed (reply_to q w r).pair ≡ true
reply-formed q w (ask_arrival clock handle size ecn u) e = arrival-formed q.pair w e q.handles q.sizes clock size ecn u
reply-formed q w (ask_departure clock) e = departure-formed q.pair w e q.handles q.sizes clock
reply-formed q w (ask_tick clock) e = tick-formed q.pair w e clock
