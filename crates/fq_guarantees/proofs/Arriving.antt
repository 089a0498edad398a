-- What an accepted arrival moves.
use mathlib.Core.Path.{◌≡◌, refl, ap, subst, sym, ◌∙◌}
use mathlib.Core.Bool.{Bool, true, false}
use mathlib.Core.List.{List, [], ◌++◌}
use Prim.Native.Nat.{ℕ, ◌+◌, ◌<◌}
use native.Mathlib.Omega.{arith}
use lib.ListN.{get_or, length}
use Rattle.calls.specs.Packets.{Packet, Sized, bytes_of}
use Rattle.hash.specs.OneAtATime.{flow_of}
use Rattle.pie.specs.Verdicts.{admitted}
use Rattle.pie.specs.declared.Verdict.{Verdict}
use Rattle.refusals.proofs.Fitting.{size-in-range}
use Rattle.refusals.proofs.Ordered.{none-refuses}
use Rattle.store.specs.Put.{free_place}
use Rattle.store_guarantees.specs.Chains.{contents}
use Rattle.fq_state.specs.Flow.{flow_with}
use Rattle.fq_state.specs.State.{State, flow_at}
use Rattle.fq_state.specs.declared.Flow.{Flow}
use Rattle.fq_rules.specs.Answer.{verdict}
use Rattle.fq_rules.specs.Arrival.{arrived_common, arrived_flow, flow_number, verdict_of}
use Rattle.fq_guarantees.specs.Acceptance.{acceptance}
use Rattle.fq_guarantees.specs.Refusals.{rows_of}
use Rattle.fq_guarantees.proofs.Replies.{number_given}
use Rattle.fq_guarantees.specs.Handed.{FlowPacket, Flows, Request, admitted_by, ask_arrival, call_of, chains_of, of_all}
use Rattle.fq_guarantees.specs.Handed.{of_flow, queued, returned}
use Rattle.fq_guarantees.proofs.Chained.{Put, length-contents, put-chains, same_read}
use Rattle.fq_guarantees.proofs.Counted.{counted_by}
use Rattle.fq_guarantees.proofs.Moves.{Moved, Still, same_bytes, same-chains, still-moves}
use Rattle.fq_guarantees.proofs.OfFlow.{put-bytes, put_order, single, single-sized}
use Rattle.fq_guarantees.proofs.Whole.{Whole, admitted-room, put-done}

flow-below : (key : List ℕ) (salt : ℕ) → flow_of key salt < 64
unfolding flow_of
flow-below key salt = omega arith

module _ (q : Flows) where
  abbrev s : State
  s = q.state

  -- ── an arrival ──

  module _ (clock : ℕ) (key : List ℕ) (handle size : ℕ) (ecn : Bool) (u : ℕ) where
    abbrev i : ℕ
    i = flow_number s key

    abbrev f : Flow
    f = flow_at s.flows i

    abbrev v : Verdict
    v = verdict_of s.common f size ecn u

    abbrev grown : Flow
    grown = arrived_flow s.common.settings.target.0 f size (free_place s.common.store) v

    abbrev r : Request
    r = ask_arrival clock key handle size ecn u

    abbrev q' : Flows
    q' = returned q r (acceptance s (call_of q r))

    -- what the arrival leaves of the flow, the record and the tables
    record After (bytes : ℕ) (into : List FlowPacket) : Type 0 where
      flow-bytes : grown.bytes ≡ f.bytes + bytes
      total-bytes : q'.state.common.backlog.bytes.0 ≡ s.common.backlog.bytes.0 + bytes
      total-count : q'.state.common.backlog.count ≡ s.common.backlog.count + length into
      entering : admitted_by q r (verdict v) ≡ into

    verdict-counted : q'.state.common.verdicts ≡ counted_by (verdict v) s.common.verdicts
    unfolding arrived_common
    verdict-counted = refl

    dropped-still : admitted v ≡ false → Still q r (verdict v) q'
    unfolding arrived_common arrived_flow flow_with
    dropped-still a =
        record {
          none_in = rw a;
          none_out = refl;
          chains = same_read q q' refl (rw a) (same-chains s.flows i grown (rw a)) (rw a) (rw a);
          bytes = same_bytes s.flows i grown (rw a);
          backlog = rw a;
          counted = refl;
        }

    admitted-put : admitted v ≡ true → Put q q' i handle size grown
    unfolding arrived_common arrived_flow flow_with
    admitted-put a =
        record {
          slots = refl;
          store = rw a;
          flows = refl;
          handles = rw a;
          sizes = rw a;
          ends = rw a;
          count = rw a;
        }

    admitted-after : admitted v ≡ true → After size (single i (record { handle = handle; size = size }))
    unfolding arrived_common arrived_flow flow_with
    admitted-after a = record { flow-bytes = rw a; total-bytes = rw a; total-count = rw a; entering = rw a }

    module _ (h : Whole q) (none : number_given s (call_of q r) ≡ 0) where
      tests : (n : ℕ) → (get_or (rows_of s (call_of q r)) n (0, false)).1 ≡ false
      tests = none-refuses (rows_of s (call_of q r)) refl none

      admitted-moves : admitted v ≡ true → Moved q r (verdict v) q'
      admitted-moves a =
          let p : Packet = record { handle = handle; size = size } in
          let k = admitted-after a in
          let into = sym k.entering in
          let range = size-in-range size (tests 3) in
          let below = flow-below key s.common.settings.salt in
          let inside : i < length s.flows = omega (arith, h.formed.flows_long) in
          let d = put-done q i handle size h (tests 1) below (omega arith) (admitted-room s.common f size ecn u a) in
          let same = put-chains q q' i handle size grown (admitted-put a) in
          let order = put_order (contents (chains_of q)) i p (omega (arith, length-contents q)) in
          record {
            order =
                λ flow.
                subst (λ l. queued flow q ++ of_flow flow l ≡ queued flow q') into
                (order flow ∙ ap (λ l. get_or l flow []) (sym (ap contents same ∙ d.contents)));
            bytes =
                λ flow.
                subst (λ l. (flow_at q'.state.flows flow).bytes + 0 ≡ (flow_at s.flows flow).bytes + bytes_of (of_flow flow l)) into
                (put-bytes s.flows i grown p inside k.flow-bytes flow);
            sized = λ flow. subst (λ l. Sized (of_flow flow l)) into (single-sized i flow p (range.0, range.1, tt));
            all-bytes =
                subst (λ l. q'.state.common.backlog.bytes.0 + 0 ≡ s.common.backlog.bytes.0 + bytes_of (of_all l)) into
                (omega (arith, k.total-bytes));
            all-count =
                subst (λ l. q'.state.common.backlog.count + 0 ≡ s.common.backlog.count + length l) into
                (omega (arith, k.total-count));
            counted = verdict-counted;
            linked = λ fit. rw same d.sound;
          }

      pub arrival-moves : Moved q r (verdict v) q'
      arrival-moves = go (admitted v) refl
        where
          go : (b : Bool) → admitted v ≡ b → Moved q r (verdict v) q'
          go true a = admitted-moves a
          go false a = still-moves q r (verdict v) q' h (dropped-still a)
