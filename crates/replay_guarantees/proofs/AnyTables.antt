-- Two replays of one log, over tables that hold different things.
use mathlib.Core.Path.{◌≡◌, refl, sym, ap, subst, ◌∙◌}
use mathlib.Core.Bool.{Bool, true, false, cond, ◌&&◌}
use mathlib.Core.List.{List, [], ◌∷◌}
use Prim.Native.Nat.{ℕ, zero, suc, ◌+◌, ◌≤◌}
use native.Mathlib.Omega.{arith}
use borrow.Author.Tests.{eqb-false, eqb-true, not-false}
use lib.Dec.{eqb}
use lib.ListN.{length}
use Rattle.laws.proofs.Tests.{and_left, and_right}
use Rattle.refusals.specs.Answer.{Answer, refused}
use Rattle.ring.specs.Departure.{head_of}
use Rattle.ring.specs.Refusals.{tables_refused}
use Rattle.ring.specs.State.{well_formed}
use Rattle.ring.specs.declared.Settings.{Settings}
use Rattle.ring.specs.declared.State.{State}
use Rattle.ring.proofs.Facts.{facts}
use Rattle.log_codec.specs.declared.Record.{Record}
use Rattle.calls.specs.Packets.{Packet}
use Rattle.ring.specs.Calls.{Queue, after, answer_of, call_of}
use Rattle.ring_guarantees.specs.Handed.{queued}
use Rattle.calls.specs.Requests.{Request, ask_arrival, ask_departure, ask_tick}
use Rattle.ring_guarantees.proofs.Refusals.{refusals}
use Rattle.ring_guarantees.proofs.Replies.{number-refuses, number_given}
use Rattle.call_log.specs.Answers.{Answer as LogAnswer, given, refused as log_refused}
use Rattle.call_log.specs.Whole.{Contents, read_whole}
use Rattle.replay.specs.Agreement.{disagreement, request_of}
use Rattle.replay.specs.Replay.{Replay, fresh_queue, queue_of, refused as misread, replay, replay_contents, replay_from, replay_read, unless_disagrees}
use Rattle.replay.specs.Replied.{replayed_of}
use Rattle.replay.proofs.Rounds.{after-long}
use Rattle.replay_guarantees.specs.AnyTables.{AnyTables}
use Rattle.replay_guarantees.proofs.SameCalls.{Same, same_head, settings-stay, steps-same}

-- the same state and packets, and tables that fit
record Both (q q' : Queue) : Type 0 where
  same : Same q q'
  handles : length q.handles ≡ q.state.settings.slots
  sizes : length q.sizes ≡ q.state.settings.slots

-- ── the number that a call is refused by ──

module _ (s : State) (h z h' z' : List ℕ) (lh : length h' ≡ s.settings.slots) (lz : length z' ≡ s.settings.slots)
    (packets : queued (queue_of s h' z') ≡ queued (queue_of s h z)) (eh : length h' ≡ length h) (ez : length z' ≡ length z) where
  head-same : well_formed s ≡ true → eqb s.backlog.count 0 ≡ false → head_of s z' ≡ head_of s z
  head-same w some =
      let n = eqb-false s.backlog.count 0 some in
      let one : 1 ≤ s.backlog.count = omega arith in
      ap (λ (p : Packet). p.size) (same_head s h z h' z' lh lz packets (facts s w).first-high one)

  departure-number : (clock : ℕ) → (w e : Bool) → well_formed s ≡ w → eqb s.backlog.count 0 ≡ e →
      number_given s (call_of (queue_of s h' z') (ask_departure clock)) ≡ number_given s (call_of (queue_of s h z) (ask_departure clock))
  departure-number clock false e fw fe = rw fw
  departure-number clock true true fw fe = rw (eh, ez, fe)
  departure-number clock true false fw fe = rw (eh, ez, head-same fw fe)

  number_same : (r : Request) → number_given s (call_of (queue_of s h' z') r) ≡ number_given s (call_of (queue_of s h z) r)
  number_same (ask_arrival clock handle size ecn u) = rw (eh, ez)
  number_same (ask_departure clock) = departure-number clock (well_formed s) (eqb s.backlog.count 0) refl refl
  number_same (ask_tick clock) = refl

numbers-same : (q q' : Queue) → Both q q' → (r : Request) → number_given q'.state (call_of q' r) ≡ number_given q.state (call_of q r)
numbers-same q q' b r =
    let s = q.state in
    let same = b.same in
    let is : queue_of s q'.handles q'.sizes ≡ q' = ap (λ (x : State). queue_of x q'.handles q'.sizes) (sym same.state) in
    let packets : queued (queue_of s q'.handles q'.sizes) ≡ queued q = ap queued is ∙ same.packets in
    subst (λ (x : Queue). number_given x.state (call_of x r) ≡ number_given s (call_of q r)) is
    (number_same s q.handles q.sizes q'.handles q'.sizes same.handles same.sizes packets
    (same.handles ∙ sym b.handles) (same.sizes ∙ sym b.sizes) r)

-- ── a call ──

abbrev Steps : Queue → Queue → Request → Type 0
Steps q q' r = (answer_of q' r ≡ answer_of q r) × Both (after q r) (after q' r)

step_both : (q q' : Queue) → Both q q' → (r : Request) (n : ℕ) → number_given q.state (call_of q r) ≡ n → Steps q q' r
step_both q q' b r zero e =
    let t = steps-same q q' b.same r e in
    let slots = ap (λ (x : Settings). x.slots) (sym (settings-stay q r)) in
    let long = after-long q r in
    (t.0, record { same = t.1; handles = long.0 ∙ b.handles ∙ slots; sizes = long.1 ∙ b.sizes ∙ slots })
step_both q q' b r (suc n) e =
    let m = numbers-same q q' b r in
    let a = number-refuses q.state (call_of q r) (λ z. omega (arith, e, z)) in
    let a' = number-refuses q'.state (call_of q' r) (λ z. omega (arith, e, m, z)) in
    let stays : after q r ≡ q = refusals.untouched q r _ a in
    let stays' : after q' r ≡ q' = refusals.untouched q' r _ a' in
    (a' ∙ ap refused m ∙ sym a, rw (stays, stays') b)

-- ── all records ──

one_alike : (k f : ℕ) (a a' : Answer) (next next' : Queue) (R R' : Replay) → a' ≡ a → next'.state ≡ next.state →
    replayed_of R ≡ replayed_of R' → replayed_of (unless_disagrees k f a next R) ≡ replayed_of (unless_disagrees k f a' next' R')
one_alike k zero a a' next next' R R' ea es e = e
one_alike k (suc f) a a' next next' R R' ea es e = rw (ea, es)

alike : (records : List Record) (k : ℕ) (q q' : Queue) → Both q q' → replayed_of (replay_from k q records) ≡ replayed_of (replay_from k q' records)
unfolding replay_from
alike [] k q q' b = rw b.same.state
alike (r ∷ rest) k q q' b =
    let x = request_of r in
    let t = step_both q q' b x (number_given q.state (call_of q x)) refl in
    let next = after q x in
    let next' = after q' x in
    let state = t.1.same.state in
    let f : disagreement r (answer_of q' x) next'.state ≡ disagreement r (answer_of q x) next.state =
    ap (λ (y : Answer). disagreement r y next'.state) t.0 ∙ ap (λ (y : State). disagreement r (answer_of q x) y) state in
    rw f
    (one_alike k (disagreement r (answer_of q x) next.state) (answer_of q x) (answer_of q' x) next next'
    (replay_from (k + 1) next rest) (replay_from (k + 1) next' rest) t.0 state (alike rest (k + 1) next next' t.1))

-- ── a log ──

module _ (h z h' z' : List ℕ) (eh : length h' ≡ length h) (ez : length z' ≡ length z) where
  contents-alike : (c : Contents) → replayed_of (replay_contents c h z) ≡ replayed_of (replay_contents c h' z')
  contents-alike c = rw (eh, ez) (go (tables_refused q.state (length h) (length z)) refl)
    where
      q : Queue
      q = fresh_queue c.header h z

      q' : Queue
      q' = fresh_queue c.header h' z'

      go : (b : Bool) → tables_refused q.state (length h) (length z) ≡ b →
          replayed_of (cond b (misread 3) (replay_from 0 q c.records)) ≡ replayed_of (cond b (misread 3) (replay_from 0 q' c.records))
      go true e = refl
      go false e =
          let slots = c.header.slots in
          let fit : eqb (length h) slots && eqb (length z) slots ≡ true = not-false (eqb (length h) slots && eqb (length z) slots) e in
          let lh : length h ≡ slots = eqb-true (length h) slots (and_left (eqb (length h) slots) (eqb (length z) slots) fit) in
          let lz : length z ≡ slots = eqb-true (length z) slots (and_right (eqb (length h) slots) (eqb (length z) slots) fit) in
          alike c.records 0 q q' (record {
            same = record { state = refl; handles = eh ∙ lh; sizes = ez ∙ lz; packets = refl };
            handles = lh;
            sizes = lz;
          })

  read_alike : (a : LogAnswer Contents) → replayed_of (replay_read a h z) ≡ replayed_of (replay_read a h' z')
  read_alike (log_refused n) = refl
  read_alike (given c) = contents-alike c

pub any-tables : AnyTables
unfolding replay
any-tables log h z h' z' eh ez = read_alike h z h' z' eh ez (read_whole log)
