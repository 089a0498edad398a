-- What one call does to the ring: at most one packet enters at the tail, or one leaves at the head.
use mathlib.Core.Path.{◌≡◌, refl, sym, ◌∙◌}
use mathlib.Core.Bool.{Bool, true, false, cond}
use mathlib.Core.List.{List, [], ◌∷◌, ◌++◌, append-nil}
use Prim.Native.Nat.{ℕ, ◌+◌}
use native.Mathlib.Omega.{arith}
use lib.ListN.{length}
use Rattle.pie.specs.Verdicts.{admitted, raised}
use Rattle.pie.specs.declared.Verdict.{Verdict}
use Rattle.refusals.specs.Answer.{verdict}
use Rattle.docsis_pie.specs.declared.Decided.{Decided}
use Rattle.modem_flow.specs.Answer.{Reply}
use Rattle.modem_flow.specs.Arrival.{arrived_state, decision_of, stored}
use Rattle.modem_flow.specs.Departure.{departed_state, head_of}
use Rattle.modem_flow.specs.Tick.{ticked_state}
use Rattle.modem_flow.proofs.Admitted.{admitted-room}
use Rattle.modem_flow.proofs.WhenAccepted.{ArrivalAccepted, DepartureAccepted}
use Rattle.calls.specs.Packets.{Packet, Sized, bytes_of}
use Rattle.calls.specs.Ring.{slot}
use Rattle.calls.proofs.Ring.{enters, leaves}
use Rattle.modem.specs.Asked.{Request, ask_arrival, ask_departure, ask_tick}
use Rattle.modem_guarantees.specs.Handed.{Queue, admitted_by, after, answer_of, call_of, departed_by, queued, returned}
use Rattle.modem_guarantees.proofs.Replies.{Accepted, acceptance, at-one-reply, refusal_of}

-- the packets that enter come after those queued, and those that leave come before those that stay; the bytes move alike
pub record Moved (q q' : Queue) (entering leaving : List Packet) : Type 0 where
  pub order : queued q ++ entering ≡ leaving ++ queued q'
  pub bytes : q'.state.backlog.bytes.0 + bytes_of leaving ≡ q.state.backlog.bytes.0 + bytes_of entering
  pub sized : Sized entering

-- nothing enters or leaves where the ring and the tables stay
still : (q q' : Queue) → queued q' ≡ queued q → q'.state.backlog.bytes.0 ≡ q.state.backlog.bytes.0 → Moved q q' [] []
still q q' same bytes = record { order = append-nil (queued q) ∙ sym same; bytes = omega arith; sized = tt }

module _ (q : Queue) (clock handle size u : ℕ) where
  abbrev d : Decided
  d = decision_of q.state size u

  abbrev v : Verdict
  v = d.verdict

  abbrev arrived : Queue
  arrived =
      record {
        state = arrived_state q.state clock size d;
        row = raised q.row v;
        handles = stored q.state (verdict v) q.handles handle;
        sizes = stored q.state (verdict v) q.sizes size;
      }

  abbrev packet : Packet
  packet = record { handle = handle; size = size }

  arrives : ArrivalAccepted q.state q.row (length q.handles) (length q.sizes) clock size →
      Moved q arrived (cond (admitted v) (packet ∷ []) []) []
  unfolding arrived_state
  arrives a = go (admitted v) refl
    where
      go : (b : Bool) → admitted v ≡ b → Moved q arrived (cond (admitted v) (packet ∷ []) []) []
      go true e =
          let s = q.state in
          let f = a.known in
          let room = admitted-room s size u f.count-high e in
          rw e (record {
            order =
                sym (enters s.first s.settings.slots q.handles q.sizes f.first-high
                s.backlog.count handle size room.1 a.handles a.sizes);
            bytes = omega arith;
            sized = (a.size_low, a.size-high, tt);
          })
      go false e = rw e (still q _ refl refl)

departs : (q : Queue) (clock : ℕ) → let head = head_of q.state q.sizes in
    DepartureAccepted q.state q.row (length q.handles) (length q.sizes) clock head →
    Moved q (record { state = departed_state q.state clock head; row = q.row; handles = q.handles; sizes = q.sizes }) []
    (slot q.handles q.sizes q.state.first ∷ [])
unfolding departed_state
departs q clock a =
    let s = q.state in
    let fits = a.head-fits in
    record {
      order =
          append-nil (queued q)
          ∙ leaves s.first s.settings.slots q.handles q.sizes a.known.first-high s.backlog.count a.some;
      bytes = omega arith;
      sized = tt;
    }

abbrev MovedBy : Queue → Request → Reply → Type 0
MovedBy q r reply = Moved q (returned q r reply) (admitted_by r reply.answer) (departed_by reply.answer)

accepted-moves : (q : Queue) (r : Request) → Accepted q.state (call_of q r) → MovedBy q r (acceptance q.state (call_of q r))
unfolding ticked_state
accepted-moves q (ask_arrival clock handle size u) a = arrives q clock handle size u a
accepted-moves q (ask_departure clock) a = departs q clock a
accepted-moves q (ask_tick clock credits) a = still q _ refl refl

refused-still : (q : Queue) (r : Request) (n : ℕ) → MovedBy q r (refusal_of q.state n)
refused-still q (ask_arrival clock handle size u) n = still q q refl refl
refused-still q (ask_departure clock) n = still q q refl refl
refused-still q (ask_tick clock credits) n = still q q refl refl

pub moved : (q : Queue) (r : Request) → Moved q (after q r) (admitted_by r (answer_of q r)) (departed_by (answer_of q r))
moved q r = at-one-reply (MovedBy q r) q.state (call_of q r) (refused-still q r) (accepted-moves q r)
