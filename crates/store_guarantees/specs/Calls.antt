-- A call on one chain: what it does to that chain's packets, that it leaves every other chain's, and that it follows no link to no slot.
use Rattle.std.specs.Prelude.{◌≡◌, false, List, [], ◌∷◌, ◌++◌, ℕ, ◌≤◌, ◌<◌, length, replicate, set}
use Rattle.calls.specs.Packets.{Packet}
use Rattle.store.specs.Following.{link_refused}
use Rattle.store.specs.Put.{free_place}
use Rattle.store_guarantees.specs.Chains.{Chains, after_put, after_take, chain_at, contents, fresh_chains, packet_at, packets_in}
use Rattle.store_guarantees.specs.Sound.{Sound, held}

-- fresh chains are sound and empty, whatever the tables hold
abbrev pub FreshSound : Type 0
FreshSound =
    (slots n : ℕ) (handles sizes : List ℕ) → 1 ≤ slots → slots ≤ 65536 → length handles ≡ slots → length sizes ≡ slots →
    Sound (fresh_chains slots n handles sizes) × (contents (fresh_chains slots n handles sizes) ≡ replicate n [])

-- a chain holds as many packets as its count says
abbrev pub CountHeld : Type 0
CountHeld = (h : Chains) (i : ℕ) → length (packets_in h i) ≡ (chain_at h i).count

-- a packet is put at the end of chain i
pub record PutDone (h : Chains) (i handle size : ℕ) : Type 0 where
  pub followed : link_refused h.slots h.sizes h.store.freed h.store.spare ≡ false
  pub place : free_place h.store < h.slots
  pub contents : contents (after_put h i handle size) ≡ set (contents h) i (packets_in h i ++ record { handle = handle; size = size } ∷ [])
  pub sound : Sound (after_put h i handle size)

-- where the chains hold fewer packets than there are slots
abbrev pub PutAppends : Type 0
PutAppends =
    (h : Chains) (i handle size : ℕ) → Sound h → i < length h.chains → size < 65536 → held h < h.slots → PutDone h i handle size

-- the head of chain i is taken
pub record TakeDone (h : Chains) (i : ℕ) (p : Packet) (ps : List Packet) : Type 0 where
  pub followed : link_refused h.slots h.sizes (chain_at h i).ends.head (chain_at h i).count ≡ false
  pub packet : packet_at h.handles h.sizes (chain_at h i).ends.head ≡ p
  pub contents : contents (after_take h i) ≡ set (contents h) i ps
  pub sound : Sound (after_take h i)

-- where it has one
abbrev pub TakeRemoves : Type 0
TakeRemoves =
    (h : Chains) (i : ℕ) (p : Packet) (ps : List Packet) → Sound h → i < length h.chains → packets_in h i ≡ p ∷ ps → TakeDone h i p ps
