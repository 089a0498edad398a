-- A flow that an accepted call returns passes its tests beside what all flows then have in common.
use mathlib.Core.Path.{◌≡◌, refl}
use mathlib.Core.Bool.{Bool, true, false, cond, not, ◌&&◌, ◌||◌, and-false}
use mathlib.Core.List.{List}
use Prim.Native.Nat.{ℕ, ◌+◌, ◌*◌, ◌≤◌, ◌<◌}
use native.Mathlib.Omega.{arith}
use lib.Dec.{eqb, leb}
use borrow.Author.Tests.{leb-false, ne_eqb}
use Rattle.laws.proofs.Choice.{at-cond, either}
use Rattle.units.specs.Kinds.{micros, whole}
use Rattle.pie.specs.Backlog.{entered, left}
use Rattle.pie.specs.Constants.{full_allowance, largest, latest, longest, most_accumulated, period, threshold}
use Rattle.pie.specs.DropDecision.{accumulated_after}
use Rattle.pie.specs.Update.{updated}
use Rattle.pie.specs.Verdicts.{admitted}
use Rattle.pie.specs.declared.Backlog.{Backlog}
use Rattle.pie.specs.declared.Pie.{Pie}
use Rattle.pie.specs.declared.Rate.{Rate}
use Rattle.pie.specs.declared.Verdict.{Verdict}
use Rattle.pie.specs.declared.Verdict.TheVariants.{DroppedBytes, DroppedSlots}
use Rattle.pie.proofs.Ranges.{accumulated-lt}
use Rattle.refusals.proofs.Fitting.{HeadFits}
use Rattle.ring.specs.declared.State as ring-state
use Rattle.ring.specs.Departure as ring-departure
use Rattle.ring.specs.Tick as ring-tick
use Rattle.ring.proofs.Facts as ring-facts
use Rattle.ring.proofs.Kept.{departed-well-formed, ticked-well-formed}
use Rattle.store.specs.Following.{followed, link_refused}
use Rattle.store.specs.Put.{ends_after_put}
use Rattle.store.specs.Take.{ends_after_take}
use Rattle.store.specs.Words.{link_at}
use Rattle.store.specs.declared.Ends.{Ends}
use Rattle.pie_words.proofs.Flags.{flag-says}
use Rattle.fq_state.specs.Flow.{backlog_of, ends_of, flow_with, pie_of}
use Rattle.fq_state.specs.declared.Common.{Common}
use Rattle.fq_state.specs.declared.Flow.{Flow}
use Rattle.fq_rules.specs.Arrival.{arrived_flow, arrived_pie, bytes_full, slots_full, verdict_of}
use Rattle.fq_rules.specs.Departure.{departed_flow, departed_pie}
use Rattle.fq_rules.specs.Tick.{ticked_flow}
use Rattle.fq_state.proofs.Facts.{CommonFits, FlowFits}

-- ── a flow by its PIE state, its packets and its chain ──

pub pie-with : (f : Flow) (pie : Pie) (b : Backlog) (e : Ends) → pie_of (flow_with f pie b e) ≡ pie
unfolding flow_with
pie-with f pie b e = rw (flag-says f.measuring pie.rate.measuring)

record Fits (c : Common) (pie : Pie) (b : Backlog) (e : Ends) : Type 0 where
  prob-high : pie.prob.0 ≤ whole
  old-high : pie.old.0 ≤ longest
  allowance-high : pie.allowance.0 ≤ full_allowance
  accumulated-high : pie.accumulated.0 < most_accumulated
  average-high : pie.rate.average.0 ≤ longest
  head-high : e.head < c.settings.slots
  tail-high : e.tail < c.settings.slots
  count-high : b.count ≤ c.settings.slots
  bytes_low : b.count ≤ b.bytes.0
  bytes_high : b.bytes.0 ≤ largest * b.count
  bytes_fit : b.bytes.0 ≤ c.settings.buffer.0
  start-high : pie.rate.start.0 ≤ c.clock.0
  counted-high : pie.rate.counted.0 < threshold
  idle-start : pie.rate.measuring || eqb pie.rate.start.0 0 ≡ true
  idle-counted : pie.rate.measuring || eqb pie.rate.counted.0 0 ≡ true
  busy : not (pie.rate.measuring && eqb b.count 0) ≡ true

with-fits : (c : Common) (f : Flow) (pie : Pie) (b : Backlog) (e : Ends) → Fits c pie b e → FlowFits c (flow_with f pie b e)
unfolding flow_with
with-fits c f pie b e h =
    let says = flag-says f.measuring pie.rate.measuring in
    record {
      prob-high = h.prob-high;
      old-high = h.old-high;
      allowance-high = h.allowance-high;
      accumulated-high = h.accumulated-high;
      average-high = h.average-high;
      head-high = h.head-high;
      tail-high = h.tail-high;
      count-high = h.count-high;
      bytes_low = h.bytes_low;
      bytes_high = h.bytes_high;
      bytes_fit = h.bytes_fit;
      start-high = h.start-high;
      counted-high = h.counted-high;
      idle-start = rw says h.idle-start;
      idle-counted = rw says h.idle-counted;
      busy = rw says h.busy;
    }

-- ── a flow as the ring queue, of the profile that is always active: the ring's laws of departures and ticks serve ──

abbrev as_ring : Common → Flow → ring-state.State
as_ring c f =
    record {
      settings = record { target = c.settings.target; buffer = c.settings.buffer; slots = c.settings.slots; profile = 0 };
      clock = c.clock;
      last = c.last;
      pie = pie_of f;
      backlog = backlog_of f;
      first = 0;
      verdicts = c.verdicts;
      active = true;
    }

ring-fits : (c : Common) (f : Flow) → CommonFits c → FlowFits c f → ring-facts.Facts (as_ring c f)
ring-fits c f k h =
    record {
      target-low = k.settings.target-low;
      target-high = k.settings.target-high;
      buffer-low = k.settings.buffer-low;
      buffer-high = k.settings.buffer-high;
      slots-low = k.settings.slots-low;
      slots-high = k.settings.slots-high;
      profile-high = omega arith;
      last-high = k.last-high;
      clock-high = k.clock-high;
      prob-high = h.prob-high;
      old-high = h.old-high;
      allowance-high = h.allowance-high;
      accumulated-high = h.accumulated-high;
      average-high = h.average-high;
      first-high = k.settings.slots-low;
      count-high = h.count-high;
      bytes_low = h.bytes_low;
      bytes_high = h.bytes_high;
      bytes_fit = h.bytes_fit;
      start-high = h.start-high;
      counted-high = h.counted-high;
      idle-start = h.idle-start;
      idle-counted = h.idle-counted;
      busy = h.busy;
      total-high = k.total-high;
      inactive-calm = refl;
    }

fits-back : (c : Common) (r : ring-state.State) (e : Ends) → ring-facts.Facts r → r.settings.buffer ≡ c.settings.buffer →
    r.settings.slots ≡ c.settings.slots → r.clock ≡ c.clock → e.head < c.settings.slots → e.tail < c.settings.slots →
    Fits c r.pie r.backlog e
fits-back c r e f eb es ec head tail =
    record {
      prob-high = f.prob-high;
      old-high = f.old-high;
      allowance-high = f.allowance-high;
      accumulated-high = f.accumulated-high;
      average-high = f.average-high;
      head-high = head;
      tail-high = tail;
      count-high = rw es at f.count-high;
      bytes_low = f.bytes_low;
      bytes_high = f.bytes_high;
      bytes_fit = rw eb at f.bytes_fit;
      start-high = rw ec at f.start-high;
      counted-high = f.counted-high;
      idle-start = f.idle-start;
      idle-counted = f.idle-counted;
      busy = f.busy;
    }

-- ── the flow that a departure serves ──

-- a followed link is a place in the tables
pub followed-fits : (slots : ℕ) (sizes : List ℕ) (place count : ℕ) → place < slots → link_refused slots sizes place count ≡ false →
    followed sizes place count < slots
followed-fits slots sizes place count h e = go (leb 2 count) refl
  where
    go : (t : Bool) → leb 2 count ≡ t → followed sizes place count < slots
    go true f = rw f (leb-false slots (link_at sizes place) (rw f at e))
    go false f = rw f h

pub departed-fits : (c d : Common) (f : Flow) (sizes : List ℕ) (clock size : ℕ) → CommonFits c → FlowFits c f →
    c.clock.0 ≤ clock → clock ≤ latest → 1 ≤ f.count → HeadFits (backlog_of f) size →
    link_refused c.settings.slots sizes f.head f.count ≡ false → d.settings ≡ c.settings → d.clock ≡ micros clock →
    FlowFits d (departed_flow f sizes clock size)
unfolding departed_flow ring-departure.departed_state
departed-fits c d f sizes clock size k h clock-low clock-high some head link es ec =
    let r = as_ring c f in
    let known = ring-fits c f k h in
    let slots = c.settings.slots in
    let formed = departed-well-formed r slots slots clock size (record {
      formed = ring-facts.well-formed r known;
      known = known;
      handles = refl;
      sizes = refl;
      clock-low = clock-low;
      clock-high = clock-high;
      some = some;
      head-low = head.low;
      head-high = head.high;
      head-fits = head.fits;
      left-low = head.left-low;
      left-high = head.left-high;
    }) in
    with-fits d f (departed_pie f clock size) (left (backlog_of f) size) (ends_after_take (ends_of f) f.count sizes)
    (fits-back d (ring-departure.departed_state r clock size) (ends_after_take (ends_of f) f.count sizes)
    (ring-facts.facts (ring-departure.departed_state r clock size) formed) (rw es) (rw es) (rw ec)
    (rw es (followed-fits slots sizes f.head f.count h.head-high link)) (rw es h.tail-high))

-- ── a flow at a tick ──

pub ticked-fits : (c d : Common) (f : Flow) (clock : ℕ) → CommonFits c → FlowFits c f → c.clock.0 ≤ clock → clock ≤ latest →
    c.last.0 + period ≤ clock → d.settings ≡ c.settings → d.clock ≡ micros clock →
    FlowFits d (ticked_flow c.settings.target.0 f)
unfolding ticked_flow ring-tick.ticked_state
ticked-fits c d f clock k h clock-low clock-high due es ec =
    let r = as_ring c f in
    let known = ring-fits c f k h in
    let formed = ticked-well-formed r clock (record {
      formed = ring-facts.well-formed r known;
      known = known;
      clock-low = clock-low;
      clock-high = clock-high;
      due = due;
    }) in
    with-fits d f (updated (pie_of f) false c.settings.target.0 f.bytes) (backlog_of f) (ends_of f)
    (fits-back d (ring-tick.ticked_state r clock) (ends_of f) (ring-facts.facts (ring-tick.ticked_state r clock) formed) (rw es) (rw es)
    (rw ec) (rw es h.head-high) (rw es h.tail-high))

-- ── the flow of an arrival ──

-- rules 1 and 2 leave what is accumulated, and rules 3 to 7 keep it in range
accumulated-fits : (c : Common) (f : Flow) (size : ℕ) (ecn : Bool) (u : ℕ) → f.accumulated < most_accumulated →
    accumulated_after (pie_of f) c.settings.target.0 f.bytes (verdict_of c f size ecn u) < most_accumulated
unfolding verdict_of accumulated_after
accumulated-fits c f size ecn u h =
    either P (bytes_full c size) DroppedBytes _ h
    (either P (slots_full c) DroppedSlots _ h (accumulated-lt (pie_of f) c.settings.target.0 f.bytes ecn u h))
  where
    P : Verdict → Type 0
    P v = accumulated_after (pie_of f) c.settings.target.0 f.bytes v < most_accumulated

entered-busy : (r : Rate) (count : ℕ) → not (r.measuring && eqb (count + 1) 0) ≡ true
entered-busy r count = rw (ne_eqb (count + 1) 0 (λ e. omega arith), and-false)

record BacklogFits (slots buffer : ℕ) (r : Rate) (b : Backlog) : Type 0 where
  count-high : b.count ≤ slots
  bytes_low : b.count ≤ b.bytes.0
  bytes_high : b.bytes.0 ≤ largest * b.count
  bytes_fit : b.bytes.0 ≤ buffer
  busy : not (r.measuring && eqb b.count 0) ≡ true

pub arrived-fits : (c d : Common) (f : Flow) (clock size place : ℕ) (ecn : Bool) (u : ℕ) →
    let v = verdict_of c f size ecn u in
    let slots = c.settings.slots in
    FlowFits c f → c.clock.0 ≤ clock → clock ≤ latest → 1 ≤ size → size ≤ largest →
    (admitted v ≡ true → (f.count < slots) × (f.bytes + size ≤ c.settings.buffer.0) × (place < slots)) →
    d.settings ≡ c.settings → d.clock ≡ micros clock →
    FlowFits d (arrived_flow c.settings.target.0 f size place v)
unfolding arrived_flow ends_after_put
arrived-fits c d f clock size place ecn u h clock-low clock-high size_low size-high room es ec =
    with-fits d f (arrived_pie c.settings.target.0 f v) (cond (admitted v) (entered (backlog_of f) size) (backlog_of f))
    (cond (admitted v) (ends_after_put (ends_of f) f.count place) (ends_of f))
    (record {
      prob-high = h.prob-high;
      old-high = h.old-high;
      allowance-high = h.allowance-high;
      accumulated-high = accumulated-fits c f size ecn u h.accumulated-high;
      average-high = h.average-high;
      head-high =
          rw es (at-cond (λ (e : Ends). e.head < slots) (admitted v)
          (λ a. at-cond (λ n. n < slots) (eqb f.count 0) (λ e. (room a).2) (λ e. h.head-high)) (λ a. h.head-high));
      tail-high = rw es (at-cond (λ (e : Ends). e.tail < slots) (admitted v) (λ a. (room a).2) (λ a. h.tail-high));
      count-high = rw es held.count-high;
      bytes_low = held.bytes_low;
      bytes_high = held.bytes_high;
      bytes_fit = rw es held.bytes_fit;
      start-high = rw ec (omega (arith, h.start-high));
      counted-high = h.counted-high;
      idle-start = h.idle-start;
      idle-counted = h.idle-counted;
      busy = held.busy;
    })
  where
    v : Verdict
    v = verdict_of c f size ecn u

    slots : ℕ
    slots = c.settings.slots

    held : BacklogFits slots c.settings.buffer.0 (pie_of f).rate (cond (admitted v) (entered (backlog_of f) size) (backlog_of f))
    held =
        at-cond (BacklogFits slots c.settings.buffer.0 (pie_of f).rate) (admitted v)
        (λ a.
        let free = (room a).0 in
        let fits = (room a).1 in
        record {
          count-high = omega arith;
          bytes_low = omega (arith, h.bytes_low);
          bytes_high = omega (arith, h.bytes_high);
          bytes_fit = fits;
          busy = entered-busy (pie_of f).rate f.count;
        })
        (λ a.
        record {
          count-high = h.count-high;
          bytes_low = h.bytes_low;
          bytes_high = h.bytes_high;
          bytes_fit = h.bytes_fit;
          busy = h.busy;
        })

-- ── a flow that a call leaves ──

pub left-fits : (c d : Common) (f : Flow) → FlowFits c f → d.settings ≡ c.settings → c.clock.0 ≤ d.clock.0 → FlowFits d f
left-fits c d f h es later =
    record {
      prob-high = h.prob-high;
      old-high = h.old-high;
      allowance-high = h.allowance-high;
      accumulated-high = h.accumulated-high;
      average-high = h.average-high;
      head-high = rw es h.head-high;
      tail-high = rw es h.tail-high;
      count-high = rw es h.count-high;
      bytes_low = h.bytes_low;
      bytes_high = h.bytes_high;
      bytes_fit = rw es h.bytes_fit;
      start-high = omega (arith, h.start-high);
      counted-high = h.counted-high;
      idle-start = h.idle-start;
      idle-counted = h.idle-counted;
      busy = h.busy;
    }
