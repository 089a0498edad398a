-- The flow that a call is about is one of the 64, and an admitted packet finds room in it.
use mathlib.Core.Path.{◌≡◌, refl, ap}
use mathlib.Core.Bool.{Bool, true, false}
use mathlib.Core.List.{List}
use Prim.Native.Nat.{ℕ, ◌+◌, ◌≤◌, ◌<◌}
use native.Mathlib.Nat.{mod-lt}
use native.Mathlib.Omega.{arith}
use lib.Dec.{ltb}
use lib.ListN.{get_or-eq_default, length}
use borrow.Author.Tests.{leb-false, ltb-false, ltb-true}
use lib.Dec.{leb}
use Rattle.laws.proofs.Choice.{at-cond}
use Rattle.pie.specs.Verdicts.{admitted}
use Rattle.hash.specs.OneAtATime.{flow_of, one_at_a_time, plus}
use Rattle.store.specs.Put.{free_place}
use Rattle.fq_state.specs.Flow.{empty_flow}
use Rattle.fq_state.specs.State.{State, bytes_of, count_of, flow_at}
use Rattle.fq_state.specs.declared.Common.{Common}
use Rattle.fq_state.specs.declared.Flow.{Flow}
use Rattle.fq_rules.specs.Arrival.{flow_number, verdict_of}
use Rattle.fq_rules.specs.Departure.{choice_of}
use Rattle.fq_state.proofs.Facts.{CommonFits, FlowFits, flow-fits}
use Rattle.fq_guarantees.proofs.Facts.{Facts}
use Rattle.fq_guarantees.proofs.Flows.{each-passes, part-of-total}
use Rattle.fq_guarantees.proofs.WhenAccepted.{DepartureAccepted, admitted-room}

pub known-flow : (s : State) → Facts s → length s.flows ≡ 64 → (i : ℕ) → i < 64 → FlowFits s.common (flow_at s.flows i)
known-flow s k n i h = flow-fits s.common (flow_at s.flows i) (each-passes s.common s.flows k.flows i (omega arith))

-- the flow of a key
key-flow-low : (key : List ℕ) (salt : ℕ) → flow_of key salt < 64
unfolding flow_of
key-flow-low key salt = mod-lt (plus (one_at_a_time key) salt) (omega arith)

pub flow-low : (s : State) (key : List ℕ) → flow_number s key < 64
flow-low s key = key-flow-low key s.common.settings.salt

-- the flow that a departure serves holds bytes: no flow of another number does
pub served-low : (s : State) (handles_length : ℕ) (sizes : List ℕ) (clock : ℕ) → length s.flows ≡ 64 →
    DepartureAccepted s handles_length sizes clock → (choice_of s).flow < 64
served-low s handles_length sizes clock n a = go (ltb i 64) refl
  where
    i : ℕ
    i = (choice_of s).flow

    go : (b : Bool) → ltb i 64 ≡ b → i < 64
    go true e = ltb-true i 64 e
    go false e =
        let past : 64 ≤ i = ltb-false i 64 e in
        let none : flow_at s.flows i ≡ empty_flow 0 = get_or-eq_default s.flows (empty_flow 0) (omega arith) in
        let empty : (flow_at s.flows i).bytes ≡ 0 = ap bytes_of none in
        absurd (omega (arith, a.head.low, a.head.fits))

-- and a packet
pub served-some : (c : Common) (f : Flow) (size : ℕ) → FlowFits c f → 1 ≤ size → size ≤ f.bytes → 1 ≤ f.count
served-some c f size h low fits = omega (arith, h.bytes_high)

-- ── room for an admitted packet ──

pub record Room (s : State) (f : Flow) (size : ℕ) : Type 0 where
  pub count_low : s.common.backlog.count < s.common.settings.slots
  pub bytes_low : s.common.backlog.bytes.0 + size ≤ s.common.settings.buffer.0
  pub own-count : f.count ≤ s.common.backlog.count
  pub own-bytes : f.bytes ≤ s.common.backlog.bytes.0
  pub place : free_place s.common.store < s.common.settings.slots

place-low : (c : Common) → CommonFits c → c.backlog.count < c.settings.slots → free_place c.store < c.settings.slots
place-low c k h =
    at-cond (λ place. place < c.settings.slots) (leb 1 c.store.spare)
    (λ some. k.freed-high)
    (λ none. let l = leb-false 1 c.store.spare none in omega (arith, k.used-is))

pub room : (s : State) (i : ℕ) (size : ℕ) (ecn : Bool) (u : ℕ) → Facts s → length s.flows ≡ 64 → i < 64 →
    let f = flow_at s.flows i in admitted (verdict_of s.common f size ecn u) ≡ true → Room s f size
room s i size ecn u k n h e =
    let f = flow_at s.flows i in
    let met = admitted-room s.common f size ecn u e in
    let full = met.1 in
    let free : s.common.backlog.count < s.common.settings.slots = omega (arith, k.common.used-is, k.common.used_high) in
    record {
      count_low = free;
      bytes_low = met.0;
      own-count = omega (arith, part-of-total count_of s.flows i (empty_flow 0) (omega arith), k.totals.counts-are);
      own-bytes = omega (arith, part-of-total bytes_of s.flows i (empty_flow 0) (omega arith), k.totals.bytes-are);
      place = place-low s.common k.common free;
    }
