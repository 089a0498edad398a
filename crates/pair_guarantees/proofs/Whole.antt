-- What every call keeps of both queues, and the number by which a call is refused: it is that of the queue alone.
use mathlib.Core.Path.{◌≡◌, refl, ap, sym, ◌∙◌}
use mathlib.Core.Bool.{Bool, true, false}
use mathlib.Core.Logic.{◌≢◌}
use mathlib.Core.List.{List, [], ◌∷◌}
use Prim.Native.Nat.{ℕ, ◌+◌}
use native.Mathlib.Omega.{arith}
use borrow.Author.Tests.{eqb-false}
use lib.ListN.{length}
use Rattle.calls.specs.Packets.{Packet, Sized, bytes_of}
use Rattle.calls.proofs.Packets.{sized-bytes}
use Rattle.calls.specs.Requests.{ask_arrival, ask_departure, ask_tick}
use Rattle.pie.specs.Verdicts.{admitted}
use Rattle.pie.specs.declared.Verdict.{Verdict}
use Rattle.refusals.proofs.Fitting.{fitting-head}
use Rattle.refusals.specs.Tests.{head_refused}
use Rattle.store.specs.Following.{link_refused}
use Rattle.store_guarantees.specs.Chains.{Chain, chain_at, packet_at}
use Rattle.store_guarantees.specs.Sound.{Sound}
use Rattle.pair_rules.specs.Queues.{own}
use Rattle.pair_rules.specs.WellFormed.{well_formed}
use Rattle.pair_rules.specs.declared.Which.{Which}
use Rattle.pair_rules.proofs.Facts.{facts}
use Rattle.pair_rules.specs.Arrival.{arrival_refusal, freed_refused, verdict_of}
use Rattle.pair_rules.specs.Departure.{departure_refusal, head_handle, head_size}
use Rattle.pair_rules.specs.Refusals.{empty_refused, tables_refused}
use Rattle.pair_rules.specs.Tick.{tick_refusal}
use Rattle.pair_rules.proofs.WhenAccepted.{admitted-room}
use Rattle.pair_guarantees.specs.Handed.{Queues, chain_number, chain_of, chains_of, queued}
use Rattle.pair_guarantees.specs.Isolation.{without_ends}
use Rattle.pair_guarantees.proofs.Alone.{View, alone_number}
use Rattle.pair_guarantees.proofs.Chained.{chain-at, count-queued, put-done, take_done}
use Rattle.pair_guarantees.proofs.Kept.{room}

abbrev pub unfit_of : Queues → Bool
unfit_of q = tables_refused q.pair.shared (length q.handles) (length q.sizes)

abbrev pub view_of : Which → Queues → View
view_of w q = record { state = without_ends (own w q.pair); packets = queued w q; unfit = unfit_of q }

-- the bytes are those of the packets, and each of these has a size that an arrival may have
pub record Held (v : View) : Type 0 where
  pub bytes : v.state.backlog.bytes.0 ≡ bytes_of v.packets
  pub sized : Sized v.packets
  pub five : length v.state.verdicts ≡ 5

-- where the tables do not fit, no packet is ever admitted
pub record Whole (q : Queues) : Type 0 where
  pub formed : well_formed q.pair ≡ true
  pub linked : unfit_of q ≡ false → Sound (chains_of q)
  pub held : (w : Which) → Held (view_of w q)

-- ── an arrival ──

-- `freed` is never followed to no slot
freed-followed : (w : Which) (q : Queues) (size : ℕ) (ecn : Bool) (u : ℕ) → Whole q → unfit_of q ≡ false →
    freed_refused q.pair.shared q.sizes (verdict_of q.pair w size ecn u) ≡ false
freed-followed w q size ecn u h fit = go (admitted v) refl
  where
    v : Verdict
    v = verdict_of q.pair w size ecn u

    go : (b : Bool) → admitted v ≡ b → freed_refused q.pair.shared q.sizes v ≡ false
    go true e =
        let free = (room w q.pair (facts q.pair h.formed) (admitted-room q.pair w size ecn u e).1).free in
        rw (e, (put-done w q 0 0 (h.linked fit) (omega arith) free).followed)
    go false e = rw e

pub arrival-number : (w : Which) (q : Queues) (clock handle size : ℕ) (ecn : Bool) (u : ℕ) → Whole q →
    arrival_refusal q.pair w (length q.handles) q.sizes clock size ecn u
    ≡ alone_number (view_of w q) (ask_arrival clock handle size ecn u)
unfolding arrival_refusal
arrival-number w q clock handle size ecn u h = go (unfit_of q) refl
  where
    go : (b : Bool) → unfit_of q ≡ b → arrival_refusal q.pair w (length q.handles) q.sizes clock size ecn u
        ≡ alone_number (view_of w q) (ask_arrival clock handle size ecn u)
    go true e = rw (h.formed, e)
    go false e = rw (h.formed, e, freed-followed w q size ecn u h e)

-- ── a departure ──

-- the head of a queue that holds a packet
pub record Head (w : Which) (q : Queues) : Type 0 where
  pub packet : Packet
  pub rest : List Packet
  pub split : queued w q ≡ packet ∷ rest
  pub handle : head_handle (own w q.pair) q.handles ≡ packet.handle
  pub size : head_size (own w q.pair) q.sizes ≡ packet.size
  pub link : link_refused q.pair.shared.slots q.sizes (own w q.pair).ends.head (own w q.pair).backlog.count ≡ false
  pub leaves : head_refused (own w q.pair).backlog packet.size ≡ false

pub head_of : (w : Which) (q : Queues) → Whole q → unfit_of q ≡ false → (own w q.pair).backlog.count ≢ 0 → Head w q
head_of w q h fit some = go (queued w q) refl
  where
    go : (ps : List Packet) → queued w q ≡ ps → Head w q
    go [] e = let none : 0 ≡ (own w q.pair).backlog.count = sym (ap length e) ∙ count-queued w q in absurd (some (sym none))
    go (p ∷ ps) e =
        let s = own w q.pair in
        let d = take_done w q p ps (h.linked fit) e in
        let at : chain_of s ≡ chain_at (chains_of q) (chain_number w) = sym (chain-at w q) in
        let found : packet_at q.handles q.sizes s.ends.head ≡ p =
        ap (λ (c : Chain). packet_at q.handles q.sizes c.ends.head) at ∙ d.packet in
        let held = h.held w in
        let sized : Sized (p ∷ ps) = rw e at held.sized in
        let bytes : s.backlog.bytes.0 ≡ p.size + bytes_of ps = held.bytes ∙ ap bytes_of e in
        let range = sized-bytes ps sized.2 in
        let count : length ps + 1 ≡ s.backlog.count = omega (arith, ap length e, count-queued w q) in
        record {
          packet = p;
          rest = ps;
          split = e;
          handle = ap (λ (k : Packet). k.handle) found;
          size = ap (λ (k : Packet). k.size) found;
          link = ap (λ (c : Chain). link_refused q.pair.shared.slots q.sizes c.ends.head c.count) at ∙ d.followed;
          leaves =
              fitting-head s.backlog p.size (record {
                low = sized.0;
                high = sized.1;
                fits = omega arith;
                left-low = omega arith;
                left-high = omega arith;
              });
        }

pub departure-number : (w : Which) (q : Queues) (clock : ℕ) → Whole q →
    departure_refusal q.pair w (length q.handles) q.sizes clock ≡ alone_number (view_of w q) (ask_departure clock)
unfolding departure_refusal
departure-number w q clock h = go (unfit_of q) refl
  where
    Goal : Type 0
    Goal = departure_refusal q.pair w (length q.handles) q.sizes clock ≡ alone_number (view_of w q) (ask_departure clock)

    some : (b : Bool) → unfit_of q ≡ false → empty_refused (own w q.pair) ≡ b → Goal
    some true fit e = rw (h.formed, fit, e)
    some false fit e =
        let head = head_of w q h fit (eqb-false (own w q.pair).backlog.count 0 e) in
        rw (h.formed, fit, e, head.size, head.leaves, head.link)

    go : (b : Bool) → unfit_of q ≡ b → Goal
    go true e = rw (h.formed, e)
    go false e = some (empty_refused (own w q.pair)) e refl

-- ── a tick ──

pub tick-number : (w : Which) (q : Queues) (clock : ℕ) → Whole q →
    tick_refusal q.pair w clock ≡ alone_number (view_of w q) (ask_tick clock)
unfolding tick_refusal
tick-number w q clock h = rw h.formed
