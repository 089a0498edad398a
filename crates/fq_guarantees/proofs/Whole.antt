-- What every call keeps of 64 flows that are handed back untouched, and what it says of a packet that enters and of a head that leaves.
use mathlib.Core.Path.{◌≡◌, refl, ap, sym, ◌∙◌}
use mathlib.Core.Bool.{Bool, true, false, cond, false≢true}
use mathlib.Core.Logic.{◌≢◌}
use mathlib.Core.List.{List, [], ◌∷◌}
use Prim.Native.Nat.{ℕ, zero, suc, ◌+◌, ◌≤◌, ◌<◌}
use native.Mathlib.Omega.{arith}
use borrow.Author.Tests.{eqb-false}
use lib.ListN.{length}
use Rattle.calls.specs.Packets.{Packet, Sized, bytes_of}
use Rattle.calls.proofs.Packets.{sized-bytes}
use Rattle.pie.specs.DropDecision.{drop_decision}
use Rattle.pie.specs.Verdicts.{admitted}
use Rattle.pie.specs.declared.Verdict.{Verdict}
use Rattle.pie.specs.declared.Verdict.TheVariants.{DroppedBytes, DroppedSlots}
use Rattle.refusals.proofs.Fitting.{fitting-head}
use Rattle.refusals.specs.Tests.{head_refused}
use Rattle.store.specs.Following.{link_refused}
use Rattle.store_guarantees.specs.Calls.{PutDone, TakeDone}
use Rattle.store_guarantees.specs.Chains.{Chain, chain_at, packet_at}
use Rattle.store_guarantees.specs.Sound.{Sound}
use Rattle.store_guarantees.proofs.Lists.{total-covers}
use Rattle.store_guarantees.proofs.Puts.{put-appends}
use Rattle.store_guarantees.proofs.Takes.{take-removes}
use Rattle.fq_state.specs.Flow.{backlog_of, empty_flow, pie_of}
use Rattle.fq_state.specs.State.{State, bytes_of as flow_bytes, flow_at}
use Rattle.fq_state.specs.declared.Common.{Common}
use Rattle.fq_state.specs.declared.Flow.{Flow}
use Rattle.fq_rules.specs.Arrival.{bytes_full, freed_refused, slots_full, verdict_of}
use Rattle.fq_rules.specs.Departure.{head_handle, head_size, head_word_refused, served_flow}
use Rattle.fq_rules.specs.Refusals.{tables_refused}
use Rattle.fq_guarantees.specs.Kept.{Sound as Formed}
use Rattle.fq_guarantees.proofs.Facts.{facts}
use Rattle.fq_guarantees.proofs.ServesQueued.{serves-queued}
use Rattle.fq_guarantees.specs.Handed.{Flows, chain_of, chains_of, queued}
use Rattle.fq_guarantees.proofs.Chained.{chain-at, count-queued, held_all, length-chains}

abbrev pub unfit_of : Flows → Bool
unfit_of q = tables_refused q.state.common (length q.handles) (length q.sizes)

-- the bytes are those of the packets, and each of these has a size that an arrival may have
pub record Held (flow : ℕ) (q : Flows) : Type 0 where
  pub bytes : (flow_at q.state.flows flow).bytes ≡ bytes_of (queued flow q)
  pub sized : Sized (queued flow q)

-- where the tables do not fit, no packet is ever admitted
pub record Whole (q : Flows) : Type 0 where
  pub formed : Formed q.state
  pub linked : unfit_of q ≡ false → Sound (chains_of q)
  pub held : (flow : ℕ) → Held flow q
  pub five : length q.state.common.verdicts ≡ 5

-- ── the totals ──

pub bytes-covered : (s : State) (i : ℕ) → Formed s → (flow_at s.flows i).bytes ≤ s.common.backlog.bytes.0
bytes-covered s i h = omega (arith, (facts s h.formed).totals.bytes-are, total-covers flow_bytes s.flows i (empty_flow 0) refl)

-- a flow with a packet is one of the list
pub some-inside : (flows : List Flow) (i : ℕ) → (flow_at flows i).count ≢ 0 → i < length flows
some-inside [] i some = absurd (some refl)
some-inside (f ∷ flows) zero some = omega arith
some-inside (f ∷ flows) (suc i) some = omega (arith, some-inside flows i some)

-- ── an arrival ──

-- a packet is admitted only where rule 2 does not hold
pub admitted-room : (c : Common) (f : Flow) (size : ℕ) (ecn : Bool) (u : ℕ) →
    admitted (verdict_of c f size ecn u) ≡ true → slots_full c ≡ false
unfolding verdict_of
admitted-room c f size ecn u e = go (bytes_full c size) (slots_full c) refl e
  where
    d : Verdict
    d = drop_decision (pie_of f) c.settings.target.0 f.bytes ecn u

    go : (a b : Bool) → slots_full c ≡ b → admitted (cond a DroppedBytes (cond b DroppedSlots d)) ≡ true → slots_full c ≡ false
    go true b s e = absurd (false≢true e)
    go false true s e = absurd (false≢true e)
    go false false s e = s

-- a flow's number is below 64, and there is a free slot
pub put-done : (q : Flows) (i handle size : ℕ) → Whole q → unfit_of q ≡ false → i < 64 → size < 65536 →
    slots_full q.state.common ≡ false → PutDone (chains_of q) i handle size
put-done q i handle size h fit inside small room =
    let sound = h.linked fit in
    let not_full : q.state.common.backlog.count ≢ q.state.common.settings.slots = eqb-false _ _ room in
    put-appends (chains_of q) i handle size sound (omega (arith, length-chains q, h.formed.flows_long)) small
    (omega (arith, not_full, held_all q, (facts q.state h.formed.formed).totals.counts-are, sound.counted, sound.used))

-- `freed` is never followed to no slot
pub freed-followed : (q : Flows) (f : Flow) (size : ℕ) (ecn : Bool) (u : ℕ) → Whole q → unfit_of q ≡ false →
    freed_refused q.state.common q.sizes (verdict_of q.state.common f size ecn u) ≡ false
freed-followed q f size ecn u h fit = go (admitted v) refl
  where
    v : Verdict
    v = verdict_of q.state.common f size ecn u

    go : (b : Bool) → admitted v ≡ b → freed_refused q.state.common q.sizes v ≡ false
    go true e =
        let room = admitted-room q.state.common f size ecn u e in
        rw (e, (put-done q 0 0 0 h fit (omega arith) (omega arith) room).followed)
    go false e = rw e

-- ── a departure ──

-- where there is a packet, the flow that is chosen has one
pub served-holds : (s : State) → Formed s → s.common.backlog.count ≢ 0 → (served_flow s).count ≢ 0
served-holds s h some none = omega (arith, (serves-queued s h (omega (arith, some))).queued, none)

-- the head of a flow that holds a packet
pub record Head (q : Flows) (i : ℕ) : Type 0 where
  pub packet : Packet
  pub rest : List Packet
  pub split : queued i q ≡ packet ∷ rest
  pub inside : i < length q.state.flows
  pub done : TakeDone (chains_of q) i packet rest
  pub handle : head_handle (flow_at q.state.flows i) q.handles ≡ packet.handle
  pub size : head_size (flow_at q.state.flows i) q.sizes ≡ packet.size
  pub covers : packet.size ≤ (flow_at q.state.flows i).bytes
  pub word : head_word_refused q.state.common.settings.slots (flow_at q.state.flows i) q.sizes ≡ false

pub head_of : (q : Flows) (i : ℕ) → Whole q → unfit_of q ≡ false → (flow_at q.state.flows i).count ≢ 0 → Head q i
head_of q i h fit some = go (queued i q) refl
  where
    f : Flow
    f = flow_at q.state.flows i

    go : (ps : List Packet) → queued i q ≡ ps → Head q i
    go [] e = let none : 0 ≡ f.count = sym (ap length e) ∙ count-queued i q in absurd (some (sym none))
    go (p ∷ ps) e =
        let inside = some-inside q.state.flows i some in
        let d = take-removes (chains_of q) i p ps (h.linked fit) (omega (arith, length-chains q)) e in
        let at : chain_of f ≡ chain_at (chains_of q) i = sym (chain-at q i) in
        let found : packet_at q.handles q.sizes f.head ≡ p =
        ap (λ (c : Chain). packet_at q.handles q.sizes c.ends.head) at ∙ d.packet in
        let held = h.held i in
        let sized : Sized (p ∷ ps) = rw e at held.sized in
        let bytes : f.bytes ≡ p.size + bytes_of ps = held.bytes ∙ ap bytes_of e in
        let range = sized-bytes ps sized.2 in
        let count : length ps + 1 ≡ f.count = omega (arith, ap length e, count-queued i q) in
        let size : head_size f q.sizes ≡ p.size = ap (λ (k : Packet). k.size) found in
        let link : link_refused q.state.common.settings.slots q.sizes f.head f.count ≡ false =
        ap (λ (c : Chain). link_refused q.state.common.settings.slots q.sizes c.ends.head c.count) at ∙ d.followed in
        let leaves : head_refused (backlog_of f) p.size ≡ false =
        fitting-head (backlog_of f) p.size (record {
          low = sized.0;
          high = sized.1;
          fits = omega arith;
          left-low = omega arith;
          left-high = omega arith;
        }) in
        record {
          packet = p;
          rest = ps;
          split = e;
          inside = inside;
          done = d;
          handle = ap (λ (k : Packet). k.handle) found;
          size = size;
          covers = omega arith;
          word = rw (size, leaves, link);
        }
