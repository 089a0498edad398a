-- The flows as chains of one store: what an admitted packet, a departure and a tick do to them.
use mathlib.Core.Path.{◌≡◌, refl, ap, ◌∙◌}
use mathlib.Core.List.{List, [], ◌∷◌, map}
use Prim.Native.Nat.{ℕ, ◌+◌, ◌-◌}
use lib.ListN.{get_or-map, length, length-map, set}
use Rattle.pie.specs.Verdicts.{total}
use Rattle.store.specs.Put.{ends_after_put, free_place, handles_after_put, sizes_after_put, store_after_put}
use Rattle.store.specs.Take.{ends_after_take, sizes_after_take, store_after_take}
use Rattle.store_guarantees.specs.Chains.{Chain, after_put, after_take, chain_at, contents}
use Rattle.store_guarantees.specs.Sound.{held}
use Rattle.store_guarantees.specs.Sound as sound
use Rattle.store_guarantees.proofs.Lists.{map-set}
use Rattle.store_guarantees.proofs.Takes.{count_held}
use Rattle.fq_state.specs.Flow.{empty_flow, ends_of}
use Rattle.fq_state.specs.State.{counts_of, flow_at}
use Rattle.fq_state.specs.declared.Flow.{Flow}
use Rattle.fq_guarantees.specs.Handed.{Flows, chain_of, chains_of, queued}

pub chain-at : (q : Flows) (i : ℕ) → chain_at (chains_of q) i ≡ chain_of (flow_at q.state.flows i)
chain-at q i = get_or-map chain_of q.state.flows i (empty_flow 0)

pub count-queued : (i : ℕ) (q : Flows) → length (queued i q) ≡ (flow_at q.state.flows i).count
count-queued i q = count_held (chains_of q) i ∙ ap (λ (c : Chain). c.count) (chain-at q i)

counts_same : (flows : List Flow) → map sound.count_of (map chain_of flows) ≡ counts_of flows
counts_same [] = refl
counts_same (f ∷ flows) = ap (λ t. f.count ∷ t) (counts_same flows)

pub held_all : (q : Flows) → held (chains_of q) ≡ total (counts_of q.state.flows)
held_all q = ap total (counts_same q.state.flows)

pub length-chains : (q : Flows) → length (chains_of q).chains ≡ length q.state.flows
length-chains q = length-map q.state.flows chain_of

pub length-contents : (q : Flows) → length (contents (chains_of q)) ≡ length q.state.flows
length-contents q = rw (length-map, length-map, length-map)

-- what the chains read
pub same_read : (q q' : Flows) → q'.state.common.settings.slots ≡ q.state.common.settings.slots →
    q'.state.common.store ≡ q.state.common.store → map chain_of q'.state.flows ≡ map chain_of q.state.flows →
    q'.handles ≡ q.handles → q'.sizes ≡ q.sizes → chains_of q' ≡ chains_of q
same_read q q' slots store flows handles sizes = rw (slots, store, flows, handles, sizes)

-- ── an admitted packet ──

-- q' is q with a packet more in flow i, which becomes f
pub record Put (q q' : Flows) (i handle size : ℕ) (f : Flow) : Type 0 where
  pub slots : q'.state.common.settings.slots ≡ q.state.common.settings.slots
  pub store : q'.state.common.store ≡ store_after_put q.state.common.store q.sizes
  pub flows : q'.state.flows ≡ set q.state.flows i f
  pub handles : q'.handles ≡ handles_after_put q.handles (free_place q.state.common.store) handle
  pub sizes : let o = flow_at q.state.flows i in
      q'.sizes ≡ sizes_after_put (ends_of o) o.count q.sizes (free_place q.state.common.store) size
  pub ends : let o = flow_at q.state.flows i in ends_of f ≡ ends_after_put (ends_of o) o.count (free_place q.state.common.store)
  pub count : f.count ≡ (flow_at q.state.flows i).count + 1

pub put-chains : (q q' : Flows) (i handle size : ℕ) (f : Flow) → Put q q' i handle size f →
    chains_of q' ≡ after_put (chains_of q) i handle size
put-chains q q' i handle size f p =
    rw (chain-at q i, p.slots, p.store, p.flows, p.handles, p.sizes, map-set chain_of q.state.flows i f, p.ends, p.count)

-- ── a departure ──

pub record Take (q q' : Flows) (i : ℕ) (f : Flow) : Type 0 where
  pub slots : q'.state.common.settings.slots ≡ q.state.common.settings.slots
  pub store : q'.state.common.store ≡ store_after_take q.state.common.store (flow_at q.state.flows i).head
  pub flows : q'.state.flows ≡ set q.state.flows i f
  pub handles : q'.handles ≡ q.handles
  pub sizes : q'.sizes ≡ sizes_after_take q.sizes (flow_at q.state.flows i).head q.state.common.store.freed
  pub ends : let o = flow_at q.state.flows i in ends_of f ≡ ends_after_take (ends_of o) o.count q.sizes
  pub count : f.count ≡ (flow_at q.state.flows i).count - 1

pub take-chains : (q q' : Flows) (i : ℕ) (f : Flow) → Take q q' i f → chains_of q' ≡ after_take (chains_of q) i
take-chains q q' i f p =
    rw (chain-at q i, p.slots, p.store, p.flows, p.handles, p.sizes, map-set chain_of q.state.flows i f, p.ends, p.count)
