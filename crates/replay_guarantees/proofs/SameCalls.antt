-- Two queues with the same state and the same packets queued, whatever else their tables hold: a call that one accepts the other accepts,
-- with the same answer, and they stay so.
use mathlib.Core.Path.{◌≡◌, refl, sym, ap, subst, ◌∙◌}
use mathlib.Core.List.{List, [], ◌∷◌, ◌++◌}
use Prim.Native.Nat.{ℕ, ◌+◌, ◌<◌, ◌≤◌}
use lib.ListN.{length}
use Rattle.ring.specs.Activity.{begun}
use Rattle.ring.specs.Answer.{Reply}
use Rattle.ring.specs.Arrival.{arrival_refusal, arrived_state}
use Rattle.ring.specs.Departure.{departed_state, departure_refusal, head_of}
use Rattle.ring.specs.Tick.{ticked_state}
use Rattle.ring.specs.declared.Settings.{Settings}
use Rattle.ring.specs.declared.State.{State}
use Rattle.ring.proofs.WhenAccepted.{arrival-accepted, departure-accepted}
use Rattle.ring.specs.Calls.{Call, arrive, depart, reply, update}
use Rattle.calls.specs.Packets.{Packet}
use Rattle.ring.specs.Calls.{Queue, after, answer_of, call_of}
use Rattle.ring_guarantees.specs.Handed.{queued}
use Rattle.calls.specs.Requests.{Request, admitted_by, ask_arrival, ask_departure, ask_tick, departed_by}
use Rattle.ring_guarantees.proofs.Moves.{moved}
use Rattle.ring_guarantees.proofs.Replies.{acceptance, at-one-reply, by_number, number_given}
use Rattle.calls.specs.Ring.{slot}
use Rattle.calls.proofs.Ring.{leaves}
use Rattle.replay.specs.Replay.{queue_of}
use Rattle.replay.proofs.Rounds.{after-long}

-- the second's tables fit
pub record Same (q q' : Queue) : Type 0 where
  pub state : q'.state ≡ q.state
  pub handles : length q'.handles ≡ q.state.settings.slots
  pub sizes : length q'.sizes ≡ q.state.settings.slots
  pub packets : queued q' ≡ queued q

-- ── lists ──

first-same : {x y : Packet} {xs ys : List Packet} → x ∷ xs ≡ y ∷ ys → x ≡ y
first-same e = cc

cancel : (xs ys zs : List Packet) → xs ++ ys ≡ xs ++ zs → ys ≡ zs
cancel [] ys zs e = e
cancel (x ∷ xs) ys zs e = let f : xs ++ ys ≡ xs ++ zs = cc in cancel xs ys zs f

-- ── replies ──

pub accepted-reply : (s : State) (c : Call) → number_given s c ≡ 0 → reply s c ≡ acceptance s c
accepted-reply s c e =
    by_number (λ (r : Reply). r ≡ acceptance s c) s c (λ n some given. absurd (some (sym given ∙ e))) (λ none. refl)

pub after-state : (q : Queue) (r : Request) → (after q r).state ≡ (reply q.state (call_of q r)).state
after-state q (ask_arrival clock handle size ecn u) = refl
after-state q (ask_departure clock) = refl
after-state q (ask_tick clock) = refl

acceptance-settings : (s : State) (c : Call) → (acceptance s c).state.settings ≡ s.settings
unfolding begun arrived_state departed_state ticked_state
acceptance-settings s (arrive handles sizes clock handle size ecn u) = refl
acceptance-settings s (depart handles sizes clock) = refl
acceptance-settings s (update clock) = refl

pub settings-stay : (q : Queue) (r : Request) → (after q r).state.settings ≡ q.state.settings
settings-stay q r =
    ap (λ (s : State). s.settings) (after-state q r)
    ∙ at-one-reply (λ (p : Reply). p.state.settings ≡ q.state.settings) q.state (call_of q r) (λ n. refl)
    (λ a. acceptance-settings q.state (call_of q r))

module _ (s : State) (h z h' z' : List ℕ) (long-handles : length h' ≡ s.settings.slots) (long-sizes : length z' ≡ s.settings.slots)
    (packets : queued (queue_of s h' z') ≡ queued (queue_of s h z)) where
  abbrev q : Queue
  q = queue_of s h z

  abbrev q' : Queue
  q' = queue_of s h' z'

  pub same_head : s.first < s.settings.slots → 1 ≤ s.backlog.count → slot h' z' s.first ≡ slot h z s.first
  same_head inside some =
      first-same (sym (leaves s.first s.settings.slots h' z' inside s.backlog.count some)
      ∙ packets
      ∙ leaves s.first s.settings.slots h z inside s.backlog.count some)

  accepts-too : (r : Request) → number_given s (call_of q r) ≡ 0 →
      (number_given s (call_of q' r) ≡ 0) × (acceptance s (call_of q' r) ≡ acceptance s (call_of q r))
  unfolding arrival_refusal departure_refusal
  accepts-too (ask_arrival clock handle size ecn u) e =
      let a = arrival-accepted s (length h) (length z) clock size e in
      (rw (long-handles ∙ sym a.handles, long-sizes ∙ sym a.sizes) e, refl)
  accepts-too (ask_departure clock) e =
      let a = departure-accepted s (length h) (length z) clock (head_of s z) e in
      let head = same_head a.known.first-high a.some in
      let eh : head_of s h' ≡ head_of s h = ap (λ (p : Packet). p.handle) head in
      let ez : head_of s z' ≡ head_of s z = ap (λ (p : Packet). p.size) head in
      (rw (long-handles ∙ sym a.handles, long-sizes ∙ sym a.sizes, ez) e, rw (eh, ez))
  accepts-too (ask_tick clock) e = (e, refl)

  same_step : (r : Request) → number_given s (call_of q r) ≡ 0 → (answer_of q' r ≡ answer_of q r) × Same (after q r) (after q' r)
  same_step r e =
      let p = accepts-too r e in
      let replies = accepted-reply s (call_of q' r) p.0 ∙ p.1 ∙ sym (accepted-reply s (call_of q r) e) in
      let answers : answer_of q' r ≡ answer_of q r = ap (λ (x : Reply). x.answer) replies in
      let slots = ap (λ (x : Settings). x.slots) (sym (settings-stay q r)) in
      let long = after-long q' r in
      let m = moved q r in
      let m' = moved q' r in
      let a = answer_of q r in
      let order' : queued q ++ admitted_by r a ≡ departed_by a ++ queued (after q' r) = rw (packets, answers) at m'.order in (
        answers,
        record {
          state = after-state q' r ∙ ap (λ (x : Reply). x.state) replies ∙ sym (after-state q r);
          handles = long.0 ∙ long-handles ∙ slots;
          sizes = long.1 ∙ long-sizes ∙ slots;
          packets = cancel (departed_by a) (queued (after q' r)) (queued (after q r)) (sym order' ∙ m.order);
        },
      )

pub steps-same : (q q' : Queue) → Same q q' → (r : Request) → number_given q.state (call_of q r) ≡ 0 →
    (answer_of q' r ≡ answer_of q r) × Same (after q r) (after q' r)
steps-same q q' same r e =
    let s = q.state in
    let h' = q'.handles in
    let z' = q'.sizes in
    let is : queue_of s h' z' ≡ q' = ap (λ (x : State). queue_of x h' z') (sym same.state) in
    let packets : queued (queue_of s h' z') ≡ queued q = ap queued is ∙ same.packets in
    subst (λ (x : Queue). (answer_of x r ≡ answer_of q r) × Same (after q r) (after x r)) is
    (same_step s q.handles q.sizes h' z' same.handles same.sizes packets r e)
