-- A store, any number of chains and both tables (docs/SHARED-TABLES.md, 3, 4, 7 and 8).
use Rattle.std.specs.Prelude.{List, [], ◌∷◌, map, ℕ, zero, suc, ◌+◌, ◌-◌, get_or, replicate, set}
use Rattle.calls.specs.Packets.{Packet}
use Rattle.store.specs.Fresh.{fresh_ends, fresh_store}
use Rattle.store.specs.Put.{ends_after_put, free_place, handles_after_put, sizes_after_put, store_after_put}
use Rattle.store.specs.Take.{ends_after_take, sizes_after_take, store_after_take}
use Rattle.store.specs.Words.{link_at, size_at}
use Rattle.store.specs.declared.Ends.{Ends}
use Rattle.store.specs.declared.Store.{Store}

-- 3: a chain is a head, a tail and a count
pub record Chain : Type 0 where
  pub ends : Ends
  pub count : ℕ

abbrev pub empty_chain : Chain
empty_chain = record { ends = fresh_ends; count = 0 }

pub record Chains : Type 0 where
  pub slots : ℕ
  pub store : Store
  pub chains : List Chain
  pub handles : List ℕ
  pub sizes : List ℕ

abbrev pub chain_at : Chains → (chain : ℕ) → Chain
chain_at h i = get_or h.chains i empty_chain

-- ── what the chains hold ──

-- 3: the places of `count` linked slots: the first, and each next one at the link of the one before
abbrev pub walk : (sizes : List ℕ) (first count : ℕ) → List ℕ
walk sizes first zero = []
walk sizes first (suc n) = first ∷ walk sizes (link_at sizes first) n

abbrev pub places_of : (sizes : List ℕ) → Chain → List ℕ
places_of sizes c = walk sizes c.ends.head c.count

-- the places of each chain
abbrev pub places : Chains → List (List ℕ)
places h = map (places_of h.sizes) h.chains

-- 4: the freed slots hang together by their links
abbrev pub freed_places : Chains → List ℕ
freed_places h = walk h.sizes h.store.freed h.store.spare

-- 3: the packet at a place is its handle and its word's size
abbrev pub packet_at : (handles sizes : List ℕ) (place : ℕ) → Packet
packet_at handles sizes place = record { handle = get_or handles place 0; size = size_at sizes place }

-- the packets of each chain, head first
abbrev pub contents : Chains → List (List Packet)
contents h = map (map (packet_at h.handles h.sizes)) (places h)

-- the packets of one chain
abbrev pub packets_in : Chains → (chain : ℕ) → List Packet
packets_in h i = get_or (contents h) i []

-- ── the calls ──

-- 4: n empty chains, whatever the tables hold
abbrev pub fresh_chains : (slots n : ℕ) (handles sizes : List ℕ) → Chains
fresh_chains slots n handles sizes =
    record { slots = slots; store = fresh_store; chains = replicate n empty_chain; handles = handles; sizes = sizes }

-- 7: a packet enters chain i
abbrev pub after_put : Chains → (chain handle size : ℕ) → Chains
after_put h i handle size =
    let c = chain_at h i in
    let place = free_place h.store in
    record {
      slots = h.slots;
      store = store_after_put h.store h.sizes;
      chains = set h.chains i (record { ends = ends_after_put c.ends c.count place; count = c.count + 1 });
      handles = handles_after_put h.handles place handle;
      sizes = sizes_after_put c.ends c.count h.sizes place size;
    }

-- 8: the head of chain i leaves
abbrev pub after_take : Chains → (chain : ℕ) → Chains
after_take h i =
    let c = chain_at h i in
    record {
      slots = h.slots;
      store = store_after_take h.store c.ends.head;
      chains = set h.chains i (record { ends = ends_after_take c.ends c.count h.sizes; count = c.count - 1 });
      handles = h.handles;
      sizes = sizes_after_take h.sizes c.ends.head h.store.freed;
    }
