-- Either queue sheds load by PIE: what each of its own calls does, whatever it is lent.
use mathlib.Core.Path.{◌≡◌, refl}
use mathlib.Core.Bool.{Bool, true, false, not, cond, ◌&&◌, false≢true, true≢false}
use mathlib.Core.List.{List}
use Prim.Native.Nat.{ℕ, zero, suc, ◌+◌, ◌<◌}
use native.Mathlib.Omega.{arith}
use borrow.Author.Tests.{leb-false}
use lib.Dec.{eqb, leb}
use Rattle.pie.specs.Backlog.{entered}
use Rattle.pie.specs.Verdicts.{admitted}
use Rattle.pie.specs.declared.Backlog.{Backlog}
use Rattle.pie_guarantees.specs.Shedding.{Does, InRange, Sheds}
use Rattle.pie_guarantees.proofs.NoProfile.{begins-as-given}
use Rattle.store.specs.Following.{followed, link_refused}
use Rattle.store.specs.Put.{free_place}
use Rattle.store.specs.Words.{link_at}
use Rattle.ring.specs.Calls.{Call}
use Rattle.pair_rules.specs.Facing.{facing}
use Rattle.pair_rules.specs.Queues.{own}
use Rattle.pair_rules.specs.WellFormed.{well_formed}
use Rattle.pair_rules.specs.declared.Pair.{Pair}
use Rattle.pair_rules.specs.declared.Shared.{Shared}
use Rattle.pair_rules.specs.declared.State.{State}
use Rattle.pair_rules.specs.declared.Which.{Which}
use Rattle.pair_rules.specs.declared.Which.TheVariants.{Intercom, Passengers}
use Rattle.pair_rules.proofs.Facts.{QueueFits, facts, passes, queue-fits, queue-passes}
use Rattle.pair_rules.proofs.Symmetry.{seen}
use Rattle.pair_rules.specs.Arrival.{arrived_state, verdict_of}
use Rattle.pair_rules.specs.Departure.{departed_state}
use Rattle.pair_rules.specs.Tick.{ticked_state}
use Rattle.pair_rules.proofs.Kept.{arrived-fits, departed-fits, free-slot, ticked-fits}
use Rattle.pair_rules.proofs.Seen.{slots-full-seen}
use Rattle.pair_rules.proofs.WhenAccepted.{admitted-room, room}
use Rattle.pair_guarantees.specs.Calls.{OwnCall, own_calls}
use Rattle.pair_guarantees.specs.Shedding.{Formed, queue_of, tells}
use Rattle.pair_guarantees.proofs.Replies.{at-own-reply}

-- of well-formed records, each queue's state
pub own-formed : (w : Which) (p : Pair) → well_formed p ≡ true → Formed (own w p)
own-formed Intercom p e = (p.shared.slots, (passes p e).intercom)
own-formed Passengers p e = (p.shared.slots, (passes p e).passengers)

pub formed-fits : (s : State) (f : Formed s) → QueueFits f.0 s
formed-fits s f = queue-fits f.0 s f.1

-- ── what a call does ──

entered-backlog : (t : Bool) (b : Backlog) (size : ℕ) →
    ((cond t (entered b size) b).count ≡ cond t (b.count + 1) b.count)
    × ((cond t (entered b size) b).bytes.0 ≡ cond t (b.bytes.0 + size) b.bytes.0)
entered-backlog true b size = (refl, refl)
entered-backlog false b size = (refl, refl)

abbrev own_call : Shared → State → Call → OwnCall
own_call s t c = record { shared = s; other = t; call = c }

own-does : (w : Which) (s : Shared) (o t : State) (c : Call) →
    let k = own_calls w in
    Does (queue_of w) o (k.next o (own_call s t c)) (own_call s t c) (tells (k.answer o (own_call s t c)))
unfolding arrived_state departed_state ticked_state verdict_of
own-does w s o t =
    at-own-reply w s o t (λ c a o'. Does (queue_of w) o o' (own_call s t c) (tells a))
    (λ c n. record { pie = refl; active = refl; target = refl; count = refl; bytes = refl; last = refl })
    (λ handles sizes clock handle size ecn u accepted.
    let a = accepted.1 in
    let v = verdict_of (seen w s o t) Intercom size ecn u in (
      ((facing w s).slots, a.records.passes),
      record {
        since = omega (arith, a.records.own.last-high, a.clock-low);
        verdict = rw (slots-full-seen w s o t);
        accumulated = refl;
        count = (entered-backlog (admitted v) o.backlog size).0;
        bytes = (entered-backlog (admitted v) o.backlog size).1;
        prob = refl;
        old = refl;
        allowance = refl;
        rate = refl;
        active = refl;
        target = refl;
        last = refl;
      },
    ))
    (λ handles sizes clock a. (
      ((facing w s).slots, a.records.passes),
      record {
        some = a.some;
        fits = a.head.fits;
        others = a.head.left-high;
        count = refl;
        bytes = refl;
        rate = refl;
        prob = refl;
        old = refl;
        allowance = refl;
        accumulated = refl;
        active = refl;
        target = refl;
        last = refl;
      },
    ))
    (λ clock a. (
      ((facing w s).slots, a.records.passes),
      record { due = a.due; pie = refl; active = λ e. e; last = refl; target = refl; count = refl; bytes = refl },
    ))

-- ── states stay well formed ──

-- a followed link is a place in the tables
followed-fits : (slots : ℕ) (sizes : List ℕ) (place count : ℕ) → place < slots → link_refused slots sizes place count ≡ false →
    followed sizes place count < slots
followed-fits slots sizes place count h e = go (leb 2 count) refl
  where
    go : (t : Bool) → leb 2 count ≡ t → followed sizes place count < slots
    go true f = rw f (leb-false slots (link_at sizes place) (rw f at e))
    go false f = rw f h

-- the slots are the same as the called queue sees them
place-fits : (w : Which) (s : Shared) (n : ℕ) → n < s.slots → n < (facing w s).slots
place-fits Intercom s n h = h
place-fits Passengers s n h = h

-- the head after a departure
departed-head : (slots : ℕ) (o : State) (sizes : List ℕ) (clock size : ℕ) → o.ends.head < slots →
    link_refused slots sizes o.ends.head o.backlog.count ≡ false → (departed_state o sizes clock size).ends.head < slots
unfolding departed_state
departed-head slots o sizes clock size h e = followed-fits slots sizes o.ends.head o.backlog.count h e

own-kept : (w : Which) (s : Shared) (o t : State) → Formed o → (c : Call) → Formed ((own_calls w).next o (own_call s t c))
own-kept w s o t formed =
    at-own-reply w s o t (λ c a o'. Formed o')
    (λ c n. formed)
    (λ handles sizes clock handle size ecn u accepted.
    let a = accepted.1 in
    let p = seen w s o t in (
      f.slots,
      queue-passes _ _ (arrived-fits p Intercom clock size (free_place s.store) ecn u a.records.own a.clock-low
          a.clock-high a.size_low a.size-high a.total-low
          (λ e.
          let spared = (admitted-room p Intercom size ecn u e).1 in
          (free-slot p (facts p accepted.0) spared, place-fits w s _ (room w s o t f refl accepted.0 spared)))),
    ))
    (λ handles sizes clock a. (
      f.slots,
      queue-passes _ _ (departed-fits f.slots o sizes clock _ (omega (arith, a.records.own.head-high))
          a.records.slots-high a.records.own a.clock-low a.clock-high a.some a.head
          (departed-head f.slots o sizes clock _ a.records.own.head-high a.link)),
    ))
    (λ clock a. (
      f.slots,
      queue-passes _ _ (ticked-fits f.slots o clock (omega (arith, a.records.own.head-high)) a.records.slots-high
          a.records.own a.clock-low a.clock-high a.due),
    ))
  where
    f : Shared
    f = facing w s

-- ── what well-formedness says ──

some-queued : (runs : Bool) (count : ℕ) → not (runs && eqb count 0) ≡ true → runs ≡ true → 0 < count
some-queued true zero busy e = absurd (false≢true busy)
some-queued true (suc n) busy e = omega arith
some-queued false count busy e = absurd (false≢true e)

own-ranges : (w : Which) (s : State) → Formed s → InRange (queue_of w) s
own-ranges w s formed =
    let f = formed-fits s formed in
    record {
      target-low = omega (arith, f.target-low);
      prob-high = f.prob-high;
      allowance-high = f.allowance-high;
      accumulated-high = f.accumulated-high;
      bytes_high = f.bytes_high;
      inactive = λ e. absurd (true≢false e);
      busy = some-queued s.pie.rate.measuring s.backlog.count f.busy;
    }

pub own-sheds : (w : Which) → Sheds (queue_of w)
own-sheds w =
    record {
      begins = begins-as-given (queue_of w);
      does = λ s c. own-does w c.shared s c.other c.call;
      kept = λ s c formed. own-kept w c.shared s c.other formed c.call;
      ranges = own-ranges w;
    }
