-- What an accepted departure moves: the flow that is chosen holds a packet.
use mathlib.Core.Path.{◌≡◌, refl, ap, subst, sym, ◌∙◌}
use mathlib.Core.Bool.{false}
use mathlib.Core.Logic.{◌≢◌}
use mathlib.Core.List.{[], ◌++◌}
use Prim.Native.Nat.{ℕ, ◌+◌, ◌-◌}
use native.Mathlib.Omega.{arith}
use borrow.Author.Tests.{eqb-false}
use lib.ListN.{get_or, set}
use Rattle.calls.specs.Packets.{bytes_of}
use Rattle.refusals.proofs.Ordered.{none-refuses}
use Rattle.store_guarantees.specs.Chains.{contents}
use Rattle.fq_state.specs.Flow.{flow_with}
use Rattle.fq_state.specs.State.{State, flow_at}
use Rattle.fq_state.specs.declared.Flow.{Flow}
use Rattle.fq_rules.specs.Answer.{Answer, departed}
use Rattle.fq_rules.specs.Departure.{choice_of, departed_common, departed_flow, head_handle, head_size, served_flow}
use Rattle.fq_guarantees.specs.Acceptance.{acceptance}
use Rattle.fq_guarantees.specs.Refusals.{rows_of}
use Rattle.fq_guarantees.proofs.Replies.{number_given}
use Rattle.fq_guarantees.specs.Handed.{Flows, Request, ask_departure, call_of, chains_of, departed_by, of_all, of_flow, queued, returned}
use Rattle.fq_guarantees.proofs.Chained.{Take, length-contents, take-chains}
use Rattle.fq_guarantees.proofs.Counted.{counted_by}
use Rattle.fq_guarantees.proofs.Moves.{Moved}
use Rattle.fq_guarantees.proofs.OfFlow.{single, take-bytes, take-order}
use Rattle.fq_guarantees.proofs.Whole.{Head, Whole, bytes-covered, head_of, served-holds}

module _ (q : Flows) (clock : ℕ) where
  abbrev s : State
  s = q.state

  abbrev i : ℕ
  i = (choice_of s).flow

  abbrev f : Flow
  f = served_flow s

  abbrev size : ℕ
  size = head_size f q.sizes

  abbrev shrunk : Flow
  shrunk = departed_flow f q.sizes clock size

  abbrev a : Answer
  a = departed i (head_handle f q.handles) size

  abbrev r : Request
  r = ask_departure clock

  abbrev q' : Flows
  q' = returned q r (acceptance s (call_of q r))

  departed-take : Take q q' i shrunk
  unfolding departed_common departed_flow flow_with
  departed-take =
      record { slots = refl; store = refl; flows = refl; handles = refl; sizes = refl; ends = refl; count = refl }

  -- what the departure leaves of the flow and the record
  record After : Type 0 where
    flow-bytes : shrunk.bytes ≡ f.bytes - size
    total-bytes : q'.state.common.backlog.bytes.0 ≡ s.common.backlog.bytes.0 - size
    total-count : q'.state.common.backlog.count ≡ s.common.backlog.count - 1
    counts : q'.state.common.verdicts ≡ counted_by a s.common.verdicts

  departed-after : After
  unfolding departed_common departed_flow flow_with
  departed-after = record { flow-bytes = refl; total-bytes = refl; total-count = refl; counts = refl }

  module _ (h : Whole q) (none : number_given s (call_of q r) ≡ 0) where
    tests : (n : ℕ) → (get_or (rows_of s (call_of q r)) n (0, false)).1 ≡ false
    tests = none-refuses (rows_of s (call_of q r)) refl none

    some : s.common.backlog.count ≢ 0
    some = eqb-false _ _ (tests 3)

    head : Head q i
    head = head_of q i h (tests 1) (served-holds s h.formed some)

    answered : departed_by a ≡ single i head.packet
    answered = rw (head.handle, head.size)

    pub departure-moves : Moved q r a q'
    departure-moves =
        let k = departed-after in
        let d = head.done in
        let out = sym answered in
        let p = head.packet in
        let same = take-chains q q' i shrunk departed-take in
        let moved : contents (chains_of q') ≡ set (contents (chains_of q)) i head.rest = ap contents same ∙ d.contents in
        let order =
        take-order (contents (chains_of q)) i p head.rest (omega (arith, head.inside, length-contents q)) head.split in
        let fallen : shrunk.bytes ≡ f.bytes - p.size = k.flow-bytes ∙ ap (λ n. f.bytes - n) head.size in
        record {
          order =
              λ flow.
              subst (λ l. queued flow q ++ [] ≡ of_flow flow l ++ queued flow q') out
              (order flow ∙ ap (λ l. of_flow flow (single i p) ++ get_or l flow []) (sym moved));
          bytes =
              λ flow.
              subst (λ l. (flow_at q'.state.flows flow).bytes + bytes_of (of_flow flow l) ≡ (flow_at s.flows flow).bytes + 0) out
              (take-bytes s.flows i shrunk p head.inside fallen head.covers flow);
          sized = λ flow. tt;
          all-bytes =
              subst (λ l. q'.state.common.backlog.bytes.0 + bytes_of (of_all l) ≡ s.common.backlog.bytes.0 + 0) out
              (omega (arith, k.total-bytes, head.size, head.covers, bytes-covered s i h.formed));
          all-count = omega (arith, k.total-count, some);
          counted = k.counts;
          linked = λ fit. rw same d.sound;
        }
