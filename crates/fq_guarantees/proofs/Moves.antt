-- What one call does to each flow and to all together: packets enter at the tail and leave at the head, the bytes move alike, and a
-- verdict is counted.
use mathlib.Core.Path.{◌≡◌, ap, sym, ◌∙◌}
use mathlib.Core.Bool.{Bool, false, not, ◌&&◌}
use mathlib.Core.List.{List, [], ◌++◌, append-nil, map}
use Prim.Native.Nat.{ℕ, ◌+◌}
use lib.Dec.{eqb}
use lib.ListN.{get_or-map, get_or, length, set}
use lib.Seq.{set-get_or}
use Rattle.calls.specs.Packets.{Sized, bytes_of}
use Rattle.store_guarantees.specs.Chains.{Chains, packets_in}
use Rattle.store_guarantees.specs.Sound.{Sound}
use Rattle.store_guarantees.proofs.Lists.{map-set}
use Rattle.fq_state.specs.Flow.{empty_flow}
use Rattle.fq_state.specs.State.{bytes_of as flow_bytes, flow_at}
use Rattle.fq_state.specs.declared.Flow.{Flow}
use Rattle.fq_rules.specs.Answer.{Answer}
use Rattle.fq_guarantees.specs.Handed.{Flows, Request, admitted_by, chain_of, chains_of, departed_by, of_all, of_flow, queued}
use Rattle.fq_guarantees.proofs.Counted.{counted_by}
use Rattle.fq_guarantees.proofs.Whole.{Whole, unfit_of}

pub record Moved (q : Flows) (r : Request) (a : Answer) (q' : Flows) : Type 0 where
  pub order : (flow : ℕ) → queued flow q ++ of_flow flow (admitted_by q r a) ≡ of_flow flow (departed_by a) ++ queued flow q'
  pub bytes : (flow : ℕ) →
      (flow_at q'.state.flows flow).bytes + bytes_of (of_flow flow (departed_by a))
      ≡ (flow_at q.state.flows flow).bytes + bytes_of (of_flow flow (admitted_by q r a))
  pub sized : (flow : ℕ) → Sized (of_flow flow (admitted_by q r a))
  pub all-bytes :
      q'.state.common.backlog.bytes.0 + bytes_of (of_all (departed_by a))
      ≡ q.state.common.backlog.bytes.0 + bytes_of (of_all (admitted_by q r a))
  pub all-count :
      q'.state.common.backlog.count + length (departed_by a) ≡ q.state.common.backlog.count + length (admitted_by q r a)
  pub counted : q'.state.common.verdicts ≡ counted_by a q.state.common.verdicts
  pub linked : unfit_of q' ≡ false → Sound (chains_of q')

-- ── a call that moves no packet ──

pub record Still (q : Flows) (r : Request) (a : Answer) (q' : Flows) : Type 0 where
  pub none_in : admitted_by q r a ≡ []
  pub none_out : departed_by a ≡ []
  pub chains : chains_of q' ≡ chains_of q
  pub bytes : (flow : ℕ) → (flow_at q'.state.flows flow).bytes ≡ (flow_at q.state.flows flow).bytes
  pub backlog : q'.state.common.backlog ≡ q.state.common.backlog
  pub counted : q'.state.common.verdicts ≡ counted_by a q.state.common.verdicts

abbrev unfit : Chains → Bool
unfit h = not (eqb (length h.handles) h.slots && eqb (length h.sizes) h.slots)

pub still-moves : (q : Flows) (r : Request) (a : Answer) (q' : Flows) → Whole q → Still q r a q' → Moved q r a q'
still-moves q r a q' h s =
    record {
      order =
          λ flow.
          rw (s.none_in, s.none_out) (append-nil (queued flow q) ∙ ap (λ c. packets_in c flow) (sym s.chains));
      bytes = λ flow. rw (s.none_in, s.none_out, s.bytes flow);
      sized = λ flow. rw s.none_in tt;
      all-bytes = rw (s.none_in, s.none_out, s.backlog);
      all-count = rw (s.none_in, s.none_out, s.backlog);
      counted = s.counted;
      linked = λ fit. rw s.chains (h.linked (ap unfit (sym s.chains) ∙ fit));
    }

-- a flow whose chain and bytes stay
pub same-chains : (flows : List Flow) (i : ℕ) (f : Flow) → chain_of f ≡ chain_of (flow_at flows i) →
    map chain_of (set flows i f) ≡ map chain_of flows
same-chains flows i f e =
    map-set chain_of flows i f
    ∙ ap (λ c. set (map chain_of flows) i c) (e ∙ sym (get_or-map chain_of flows i (empty_flow 0)))
    ∙ set-get_or (map chain_of flows) i (chain_of (empty_flow 0))

pub same_bytes : (flows : List Flow) (i : ℕ) (f : Flow) → f.bytes ≡ (flow_at flows i).bytes →
    (flow : ℕ) → (flow_at (set flows i f) flow).bytes ≡ (flow_at flows flow).bytes
same_bytes flows i f e flow =
    let all : map flow_bytes (set flows i f) ≡ map flow_bytes flows =
    map-set flow_bytes flows i f
    ∙ ap (λ n. set (map flow_bytes flows) i n) (e ∙ sym (get_or-map flow_bytes flows i (empty_flow 0)))
    ∙ set-get_or (map flow_bytes flows) i 0 in
    sym (get_or-map flow_bytes (set flows i f) flow (empty_flow 0))
    ∙ ap (λ l. get_or l flow 0) all
    ∙ get_or-map flow_bytes flows flow (empty_flow 0)
