-- A state that an accepted call returns passes its tests beside the slots of the shared record that the call was given.
use mathlib.Core.Path.{◌≡◌, refl}
use mathlib.Core.Bool.{Bool, true, false, cond, not, ◌&&◌, and-false}
use mathlib.Core.List.{List}
use Prim.Native.Nat.{ℕ, ◌+◌, ◌*◌, ◌≤◌, ◌<◌}
use native.Mathlib.Omega.{arith}
use lib.Dec.{eqb, leb}
use borrow.Author.Tests.{eqb-false, leb-false, ne_eqb}
use Rattle.laws.proofs.Choice.{at-cond, either}
use Rattle.pie.specs.Backlog.{entered}
use Rattle.pie.specs.Constants.{most_accumulated, largest, latest, most_verdicts, period}
use Rattle.pie.specs.DropDecision.{accumulated_after}
use Rattle.pie.specs.Verdicts.{admitted, total}
use Rattle.pie.specs.declared.Backlog.{Backlog}
use Rattle.pie.specs.declared.Rate.{Rate}
use Rattle.pie.specs.declared.Verdict.{Verdict}
use Rattle.pie.specs.declared.Verdict.TheVariants.{DroppedBytes, DroppedSlots}
use Rattle.pie.proofs.Counts.{total-raised}
use Rattle.pie.proofs.Ranges.{accumulated-lt}
use Rattle.refusals.proofs.Fitting.{HeadFits}
use Rattle.ring.specs.declared.State as ring-state
use Rattle.ring.specs.Departure as ring-departure
use Rattle.ring.specs.Tick as ring-tick
use Rattle.ring.proofs.Facts as ring-facts
use Rattle.ring.proofs.Kept.{departed-well-formed, ticked-well-formed}
use Rattle.store.specs.Put.{ends_after_put}
use Rattle.store.specs.declared.Ends.{Ends}
use Rattle.pair_rules.specs.Queues.{common_slots, common_use, own}
use Rattle.pair_rules.specs.declared.Pair.{Pair}
use Rattle.pair_rules.specs.declared.State.{State}
use Rattle.pair_rules.specs.declared.Which.{Which}
use Rattle.pair_rules.specs.declared.Which.TheVariants.{Intercom}
use Rattle.pair_rules.proofs.Facts.{Facts, QueueFits}
use Rattle.pair_rules.specs.Arrival.{arrived_state, bytes_full, slots_full, verdict_of}
use Rattle.pair_rules.specs.Departure.{departed_state}
use Rattle.pair_rules.specs.Tick.{ticked_state}
use Rattle.pair_rules.proofs.WhenAccepted.{admitted-room}

-- ── a queue's state as the ring's, of the profile that is always active: the ring's laws of departures and ticks serve ──

abbrev as_ring : (slots : ℕ) → State → ring-state.State
as_ring slots s =
    record {
      settings = record { target = s.settings.target; buffer = s.settings.buffer; slots = slots; profile = 0 };
      clock = s.clock;
      last = s.last;
      pie = s.pie;
      backlog = s.backlog;
      first = 0;
      verdicts = s.verdicts;
      active = true;
    }

ring-fits : (slots : ℕ) (s : State) → 1 ≤ slots → slots ≤ 65536 → QueueFits slots s → ring-facts.Facts (as_ring slots s)
ring-fits slots s low high f =
    record {
      target-low = f.target-low;
      target-high = f.target-high;
      buffer-low = f.buffer-low;
      buffer-high = f.buffer-high;
      slots-low = low;
      slots-high = high;
      profile-high = omega arith;
      last-high = f.last-high;
      clock-high = f.clock-high;
      prob-high = f.prob-high;
      old-high = f.old-high;
      allowance-high = f.allowance-high;
      accumulated-high = f.accumulated-high;
      average-high = f.average-high;
      first-high = low;
      count-high = f.count-high;
      bytes_low = f.bytes_low;
      bytes_high = f.bytes_high;
      bytes_fit = f.bytes_fit;
      start-high = f.start-high;
      counted-high = f.counted-high;
      idle-start = f.idle-start;
      idle-counted = f.idle-counted;
      busy = f.busy;
      total-high = f.total-high;
      inactive-calm = refl;
    }

-- a state that differs from the ring's in its place alone
fits-back : (slots : ℕ) (s : State) (r : ring-state.State) → ring-facts.Facts r →
    r.settings.target ≡ s.settings.target → r.settings.buffer ≡ s.settings.buffer → r.settings.slots ≡ slots →
    r.clock ≡ s.clock → r.last ≡ s.last → r.pie ≡ s.pie → r.backlog ≡ s.backlog → r.verdicts ≡ s.verdicts →
    s.ends.head < slots → s.ends.tail < slots → QueueFits slots s
fits-back slots s r f et eb es ec el ep ek ev head tail =
    record {
      target-low = rw et at f.target-low;
      target-high = rw et at f.target-high;
      buffer-low = rw eb at f.buffer-low;
      buffer-high = rw eb at f.buffer-high;
      last-high = rw (el, ec) at f.last-high;
      clock-high = rw ec at f.clock-high;
      prob-high = rw ep at f.prob-high;
      old-high = rw ep at f.old-high;
      allowance-high = rw ep at f.allowance-high;
      accumulated-high = rw ep at f.accumulated-high;
      average-high = rw ep at f.average-high;
      head-high = head;
      tail-high = tail;
      count-high = rw (ek, es) at f.count-high;
      bytes_low = rw ek at f.bytes_low;
      bytes_high = rw ek at f.bytes_high;
      bytes_fit = rw (ek, eb) at f.bytes_fit;
      start-high = rw (ep, ec) at f.start-high;
      counted-high = rw ep at f.counted-high;
      idle-start = rw ep at f.idle-start;
      idle-counted = rw ep at f.idle-counted;
      busy = rw (ep, ek) at f.busy;
      total-high = rw ev at f.total-high;
    }

-- ── the called queue ──

pub departed-fits : (slots : ℕ) (s : State) (sizes : List ℕ) (clock size : ℕ) → 1 ≤ slots → slots ≤ 65536 → QueueFits slots s →
    s.clock.0 ≤ clock → clock ≤ latest → 1 ≤ s.backlog.count → HeadFits s.backlog size →
    (departed_state s sizes clock size).ends.head < slots → QueueFits slots (departed_state s sizes clock size)
unfolding departed_state ring-departure.departed_state
departed-fits slots s sizes clock size low high f clock-low clock-high some h head =
    let r = as_ring slots s in
    let k = ring-fits slots s low high f in
    let formed = departed-well-formed r slots slots clock size (record {
      formed = ring-facts.well-formed r k;
      known = k;
      handles = refl;
      sizes = refl;
      clock-low = clock-low;
      clock-high = clock-high;
      some = some;
      head-low = h.low;
      head-high = h.high;
      head-fits = h.fits;
      left-low = h.left-low;
      left-high = h.left-high;
    }) in
    fits-back slots (departed_state s sizes clock size) (ring-departure.departed_state r clock size)
    (ring-facts.facts (ring-departure.departed_state r clock size) formed)
    refl refl refl refl refl refl refl refl head f.tail-high

pub ticked-fits : (slots : ℕ) (s : State) (clock : ℕ) → 1 ≤ slots → slots ≤ 65536 → QueueFits slots s →
    s.clock.0 ≤ clock → clock ≤ latest → s.last.0 + period ≤ clock → QueueFits slots (ticked_state s clock)
unfolding ticked_state ring-tick.ticked_state
ticked-fits slots s clock low high f clock-low clock-high due =
    let r = as_ring slots s in
    let k = ring-fits slots s low high f in
    let formed = ticked-well-formed r clock (record {
      formed = ring-facts.well-formed r k;
      known = k;
      clock-low = clock-low;
      clock-high = clock-high;
      due = due;
    }) in
    fits-back slots (ticked_state s clock) (ring-tick.ticked_state r clock) (ring-facts.facts (ring-tick.ticked_state r clock) formed)
    refl refl refl refl refl refl refl refl f.head-high f.tail-high

-- rules 1 and 2 leave what is accumulated, and rules 3 to 7 keep it in range
accumulated-fits : (p : Pair) (w : Which) (size : ℕ) (ecn : Bool) (u : ℕ) → let s = own w p in s.pie.accumulated.0 < most_accumulated →
    accumulated_after s.pie s.settings.target.0 s.backlog.bytes.0 (verdict_of p w size ecn u) < most_accumulated
unfolding verdict_of accumulated_after
accumulated-fits p w size ecn u h =
    either P (bytes_full (own w p) size) DroppedBytes _ h
    (either P (slots_full p w) DroppedSlots _ h (accumulated-lt (own w p).pie target bytes ecn u h))
  where
    target : ℕ
    target = (own w p).settings.target.0

    bytes : ℕ
    bytes = (own w p).backlog.bytes.0

    P : Verdict → Type 0
    P v = accumulated_after (own w p).pie target bytes v < most_accumulated

entered-busy : (r : Rate) (count : ℕ) → not (r.measuring && eqb (count + 1) 0) ≡ true
entered-busy r count = rw (ne_eqb (count + 1) 0 (λ e. omega arith), and-false)

record BacklogFits (slots buffer : ℕ) (r : Rate) (b : Backlog) : Type 0 where
  count-high : b.count ≤ slots
  bytes_low : b.count ≤ b.bytes.0
  bytes_high : b.bytes.0 ≤ largest * b.count
  bytes_fit : b.bytes.0 ≤ buffer
  busy : not (r.measuring && eqb b.count 0) ≡ true

pub arrived-fits : (p : Pair) (w : Which) (clock size place : ℕ) (ecn : Bool) (u : ℕ) →
    let s = own w p in
    let v = verdict_of p w size ecn u in
    let slots = p.shared.slots in
    QueueFits slots s → s.clock.0 ≤ clock → clock ≤ latest → 1 ≤ size → size ≤ largest → total s.verdicts < most_verdicts →
    (admitted v ≡ true → (s.backlog.count < slots) × (place < slots)) →
    QueueFits slots (arrived_state s clock size place v)
unfolding arrived_state ends_after_put
arrived-fits p w clock size place ecn u f clock-low clock-high size_low size-high total-low room =
    record {
      target-low = f.target-low;
      target-high = f.target-high;
      buffer-low = f.buffer-low;
      buffer-high = f.buffer-high;
      last-high = omega (arith, f.last-high);
      clock-high = clock-high;
      prob-high = f.prob-high;
      old-high = f.old-high;
      allowance-high = f.allowance-high;
      accumulated-high = accumulated-fits p w size ecn u f.accumulated-high;
      average-high = f.average-high;
      head-high =
          at-cond (λ (e : Ends). e.head < slots) (admitted v)
          (λ a. at-cond (λ n. n < slots) (eqb s.backlog.count 0) (λ e. (room a).1) (λ e. f.head-high)) (λ a. f.head-high);
      tail-high = at-cond (λ (e : Ends). e.tail < slots) (admitted v) (λ a. (room a).1) (λ a. f.tail-high);
      count-high = held.count-high;
      bytes_low = held.bytes_low;
      bytes_high = held.bytes_high;
      bytes_fit = held.bytes_fit;
      start-high = omega (arith, f.start-high);
      counted-high = f.counted-high;
      idle-start = f.idle-start;
      idle-counted = f.idle-counted;
      busy = held.busy;
      total-high = omega (arith, total-raised s.verdicts v);
    }
  where
    s : State
    s = own w p

    v : Verdict
    v = verdict_of p w size ecn u

    slots : ℕ
    slots = p.shared.slots

    held : BacklogFits slots s.settings.buffer.0 s.pie.rate (cond (admitted v) (entered s.backlog size) s.backlog)
    held =
        at-cond (BacklogFits slots s.settings.buffer.0 s.pie.rate) (admitted v)
        (λ a.
        let fits = (admitted-room p w size ecn u a).0 in
        let free = (room a).0 in
        record {
          count-high = omega arith;
          bytes_low = omega (arith, f.bytes_low);
          bytes_high = omega (arith, f.bytes_high);
          bytes_fit = fits;
          busy = entered-busy s.pie.rate s.backlog.count;
        })
        (λ a.
        record {
          count-high = f.count-high;
          bytes_low = f.bytes_low;
          bytes_high = f.bytes_high;
          bytes_fit = f.bytes_fit;
          busy = f.busy;
        })

-- ── room ──

neither : {A : Type 0} (a b : Bool) → a && b ≡ false → (a ≡ false → A) → (b ≡ false → A) → A
neither true b e first second = second e
neither false b e first second = first refl

-- 16: where rule 2 does not hold, the called queue does not hold every slot
pub free-slot : (p : Pair) → Facts p → slots_full p Intercom ≡ false → p.intercom.backlog.count < p.shared.slots
free-slot p f e =
    let first = p.shared.reserves.intercom in
    let a = p.intercom.backlog.count in
    let fits = f.shared.reserves-high in
    let shared = f.both.common-high in
    neither (leb first a) (eqb (common_use p) (common_slots p.shared)) e
    (λ t. let l = leb-false first a t in omega arith)
    (λ t. let l = eqb-false (common_use p) (common_slots p.shared) t in omega arith)
