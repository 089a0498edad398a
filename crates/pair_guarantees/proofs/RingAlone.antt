-- The plain ring queue is a queue alone too: each of its calls is one on its state, its packets as a list and whether its tables fit.
use mathlib.Core.Path.{◌≡◌, refl, ap, subst, sym, ◌∙◌}
use mathlib.Core.Bool.{Bool, true, false}
use mathlib.Core.Logic.{◌≢◌}
use mathlib.Core.List.{List, [], ◌∷◌, ◌++◌}
use Prim.Native.Nat.{ℕ, zero, suc, ◌+◌, ◌-◌, ◌%◌}
use native.Mathlib.Omega.{arith}
use borrow.Author.Tests.{eqb-false}
use lib.ListN.{get_or, length, length-set}
use Rattle.laws.proofs.Choice.{either}
use Rattle.calls.specs.Packets.{Packet}
use Rattle.calls.specs.Ring.{slot}
use Rattle.calls.specs.Ring as tables
use Rattle.calls.proofs.Ring.{leaves}
use Rattle.calls.proofs.Traces.{same_rest}
use Rattle.ring.specs.Calls.{Queue, after, answer_of, call_of}
use Rattle.calls.specs.Requests.{Request, admitted_by, ask_arrival, ask_departure, ask_tick, departed_by}
use Rattle.ring_guarantees.specs.Handed.{queued}
use Rattle.ring.specs.Calls.{returned}
use Rattle.ring.specs.Calls.{reply}
use Rattle.ring_guarantees.proofs.NeverRefused.{head-leaves}
use Rattle.ring_guarantees.proofs.Replies.{acceptance, by_number, number_given, refusal_of}
use Rattle.ring_guarantees.proofs.RingKeeps.{Sound, ring-keeps}
use Rattle.ring.specs.Activity.{begun}
use Rattle.refusals.specs.Answer.{Answer, admits, refused, verdict}
use Rattle.ring.specs.Answer.{Reply}
use Rattle.ring.specs.Arrival as ring
use Rattle.ring.specs.Departure as ring-departure
use Rattle.ring.specs.Refusals.{empty_refused, tables_refused}
use Rattle.ring.specs.State.{well_formed}
use Rattle.ring.specs.Tick as ring-tick
use Rattle.ring.specs.declared.State as ring-queue
use Rattle.ring.proofs.Facts.{facts}
use Rattle.refusals.proofs.Ordered.{none-refuses}
use Rattle.pair_rules.specs.declared.State.{State}
use Rattle.pair_rules.specs.Arrival.{arrived_state}
use Rattle.pair_rules.specs.Departure.{departed_state}
use Rattle.pair_rules.specs.Tick.{ticked_state}
use Rattle.pair_guarantees.specs.Isolation.{without_ends}
use Rattle.pair_guarantees.proofs.Alone.{AloneReply, View, alone_acceptance, alone_number, alone_reply, alone_unless, alone_verdict}
use Rattle.pair_guarantees.proofs.Alone.{head_taken}
use Rattle.pair_guarantees.proofs.AloneMoves.{alone-moves}
use Rattle.pair_guarantees.proofs.Whole.{Held}

-- a plain ring queue, in the words of one of two queues
pub record Ring : Type 0 where
  pub state : State
  pub slots : ℕ
  pub first : ℕ
  pub handles : List ℕ
  pub sizes : List ℕ

abbrev pub state_of : Ring → ring-queue.State
state_of x =
    let s = x.state in
    record {
      settings = record { target = s.settings.target; buffer = s.settings.buffer; slots = x.slots; profile = 0 };
      clock = s.clock;
      last = s.last;
      pie = s.pie;
      backlog = s.backlog;
      first = x.first;
      verdicts = s.verdicts;
      active = true;
    }

abbrev pub queue_of : Ring → Queue
queue_of x = record { state = state_of x; handles = x.handles; sizes = x.sizes }

abbrev unfit_of : Ring → Bool
unfit_of x = tables_refused (state_of x) (length x.handles) (length x.sizes)

abbrev pub ring_view : Ring → View
ring_view x = record { state = without_ends x.state; packets = queued (queue_of x); unfit = unfit_of x }

pub record RingWhole (x : Ring) : Type 0 where
  pub formed : well_formed (state_of x) ≡ true
  pub held : Held (ring_view x)

-- ── the number ──

ring-number : (x : Ring) (r : Request) → RingWhole x → number_given (state_of x) (call_of (queue_of x) r) ≡ alone_number (ring_view x) r
ring-number x (ask_arrival clock handle size ecn u) h = rw h.formed
ring-number x (ask_departure clock) h = go (empty_refused (state_of x)) refl
  where
    go : (b : Bool) → empty_refused (state_of x) ≡ b →
        number_given (state_of x) (call_of (queue_of x) (ask_departure clock)) ≡ alone_number (ring_view x) (ask_departure clock)
    go true e = rw (h.formed, e)
    go false e =
        rw (
          h.formed,
          e,
          head-leaves (queue_of x) h.formed h.held.bytes h.held.sized (eqb-false x.state.backlog.count 0 e),
        )
ring-number x (ask_tick clock) h = rw h.formed

-- ── a call ──

-- all but the packets
record Moved (x : Ring) (r : Request) (reply : Reply) (m : AloneReply) : Type 0 where
  next : Ring
  is : returned (queue_of x) r reply ≡ queue_of next
  slots : next.slots ≡ x.slots
  answer : reply.answer ≡ m.answer
  state : without_ends next.state ≡ m.view.state
  unfit : unfit_of next ≡ m.view.unfit

stays : (x : Ring) (r : Request) (n : ℕ) → Moved x r (refusal_of (state_of x) n) (record { answer = refused n; view = ring_view x })
stays x (ask_arrival clock handle size ecn u) n =
    record { next = x; is = refl; slots = refl; answer = refl; state = refl; unfit = refl }
stays x (ask_departure clock) n = record { next = x; is = refl; slots = refl; answer = refl; state = refl; unfit = refl }
stays x (ask_tick clock) n = record { next = x; is = refl; slots = refl; answer = refl; state = refl; unfit = refl }

stored-length : (s : ring-queue.State) (a : Answer) (table : List ℕ) (element : ℕ) → length (ring.stored s a table element) ≡ length table
stored-length s a table element =
    either (λ t. length t ≡ length table) (admits a) _ table (length-set table (ring.tail_place s) element) refl

abbrev full : Ring → Bool
full x = ring.slots_full (state_of x)

accepted : (x : Ring) (r : Request) → RingWhole x → number_given (state_of x) (call_of (queue_of x) r) ≡ 0 →
    Moved x r (acceptance (state_of x) (call_of (queue_of x) r)) (alone_acceptance (ring_view x) (full x) r)
unfolding begun ring.verdict_of ring.arrived_state ring-departure.departed_state ring-tick.ticked_state arrived_state departed_state ticked_state
accepted x (ask_arrival clock handle size ecn u) h none =
    let s = state_of x in
    let v = alone_verdict (without_ends x.state) (full x) size ecn u in
    record {
      next =
          record {
            state = arrived_state x.state clock size 0 v;
            slots = x.slots;
            first = x.first;
            handles = ring.stored s (verdict v) x.handles handle;
            sizes = ring.stored s (verdict v) x.sizes size;
          };
      is = refl;
      slots = refl;
      answer = refl;
      state = refl;
      unfit = rw (stored-length s (verdict v) x.handles handle, stored-length s (verdict v) x.sizes size);
    }
accepted x (ask_departure clock) h none = subst (λ ps. Moved x (ask_departure clock) gone (head_taken (ring_view x) clock ps)) (sym split) moved
  where
    gone : Reply
    gone = acceptance (state_of x) (call_of (queue_of x) (ask_departure clock))

    rest : List Packet
    rest = tables.ring ((x.first + 1) % x.slots) x.slots x.handles x.sizes (x.state.backlog.count - 1)

    split : queued (queue_of x) ≡ slot x.handles x.sizes x.first ∷ rest
    split =
        let head = get_or x.sizes x.first 0 in
        let rows = ring-departure.departure_refusals (state_of x) (length x.handles) (length x.sizes) clock head in
        let some : x.state.backlog.count ≢ 0 = eqb-false _ _ (none-refuses rows refl none 3) in
        let inside = (facts (state_of x) h.formed).first-high in
        leaves x.first x.slots x.handles x.sizes inside x.state.backlog.count (omega arith)

    moved : Moved x (ask_departure clock) gone (head_taken (ring_view x) clock (slot x.handles x.sizes x.first ∷ rest))
    moved =
        record {
          next =
              record {
                state = departed_state x.state [] clock (get_or x.sizes x.first 0);
                slots = x.slots;
                first = (x.first + 1) % x.slots;
                handles = x.handles;
                sizes = x.sizes;
              };
          is = refl;
          slots = refl;
          answer = refl;
          state = refl;
          unfit = refl;
        }
accepted x (ask_tick clock) h none =
    record {
      next = record { state = ticked_state x.state clock; slots = x.slots; first = x.first; handles = x.handles; sizes = x.sizes };
      is = refl;
      slots = refl;
      answer = refl;
      state = refl;
      unfit = refl;
    }

moved : (x : Ring) (r : Request) → RingWhole x →
    Moved x r (reply (state_of x) (call_of (queue_of x) r)) (alone_reply (ring_view x) (full x) r)
moved x r h =
    by_number (λ t. Moved x r t (alone_reply (ring_view x) (full x) r)) (state_of x) (call_of (queue_of x) r)
    (λ n some given. go n some (sym number ∙ given))
    (λ none. subst (λ n. Moved x r (acceptance (state_of x) (call_of (queue_of x) r)) (by n)) (sym (sym number ∙ none)) (accepted x r h none))
  where
    number : number_given (state_of x) (call_of (queue_of x) r) ≡ alone_number (ring_view x) r
    number = ring-number x r h

    by : ℕ → AloneReply
    by n = alone_unless n (ring_view x) (alone_acceptance (ring_view x) (full x) r)

    go : (n : ℕ) → n ≢ 0 → alone_number (ring_view x) r ≡ n → Moved x r (refusal_of (state_of x) n) (by (alone_number (ring_view x) r))
    go zero some e = absurd (some refl)
    go (suc n) some e = subst (λ k. Moved x r (refusal_of (state_of x) (suc n)) (by k)) (sym e) (stays x r (suc n))

-- ── with the packets ──

cancel : (xs ys zs : List Packet) → xs ++ ys ≡ xs ++ zs → ys ≡ zs
cancel [] ys zs e = e
cancel (x ∷ xs) ys zs e = cancel xs ys zs (same_rest e)

abbrev viewed : State → List Packet → Bool → View
viewed state packets unfit = record { state = state; packets = packets; unfit = unfit }

same_view : (v v' : View) → v.state ≡ v'.state → v.packets ≡ v'.packets → v.unfit ≡ v'.unfit → v ≡ v'
same_view v v' state packets unfit =
    ap (λ (s : State). viewed s v.packets v.unfit) state
    ∙ ap (λ (ps : List Packet). viewed v'.state ps v.unfit) packets
    ∙ ap (λ (b : Bool). viewed v'.state v'.packets b) unfit

pub record RingStep (x : Ring) (r : Request) (m : AloneReply) : Type 0 where
  pub next : Ring
  pub is : after (queue_of x) r ≡ queue_of next
  pub slots : next.slots ≡ x.slots
  pub answer : answer_of (queue_of x) r ≡ m.answer
  pub view : ring_view next ≡ m.view
  pub whole : RingWhole next

pub ring-steps : (x : Ring) (r : Request) → RingWhole x → RingStep x r (alone_reply (ring_view x) (full x) r)
ring-steps x r h =
    let q = queue_of x in
    let m = alone_reply (ring_view x) (full x) r in
    let sound : Sound q = record { formed = h.formed; five = h.held.five } in
    let t = moved x r h in
    let alone = alone-moves (ring_view x) (full x) r h.held in
    let is : after q r ≡ queue_of t.next = t.is in
    let entered : queued q ++ admitted_by r (answer_of q r) ≡ departed_by (answer_of q r) ++ queued (after q r) = ring-keeps.order q r sound in
    let packets : queued (queue_of t.next) ≡ m.view.packets =
    cancel (departed_by m.answer) _ _
    (subst (λ k. departed_by m.answer ++ queued k ≡ queued q ++ admitted_by r m.answer) is
    (subst (λ a. departed_by a ++ queued (after q r) ≡ queued q ++ admitted_by r a) t.answer (sym entered))
    ∙ alone.order) in
    let view : ring_view t.next ≡ m.view = same_view _ _ t.state packets t.unfit in
    record {
      next = t.next;
      is = is;
      slots = t.slots;
      answer = t.answer;
      view = view;
      whole =
          record {
            formed = subst (λ (k : Queue). well_formed k.state ≡ true) is (ring-keeps.sound q r sound).formed;
            held = subst Held (sym view) alone.held;
          };
    }
