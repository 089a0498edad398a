-- Lists of calls on chains, with everything handed back untouched.
use Rattle.std.specs.Prelude.{cond, List, [], ◌∷◌, ℕ, ◌<◌, eqb, leb}
use Rattle.calls.specs.Packets.{Packet}
use Rattle.laws.specs.Every.{Every}
use Rattle.store.specs.Following.{link_refused}
use Rattle.store_guarantees.specs.Chains.{Chains, after_put, after_take, chain_at, packet_at}
use Rattle.store_guarantees.specs.Sound.{held}

-- a call as it is asked for, on the chain of that number
pub data Request : Type 0 where
  put : (chain handle size : ℕ) → Request
  take : (chain : ℕ) → Request

abbrev pub chain_of : Request → ℕ
chain_of (put i handle size) = i
chain_of (take i) = i

-- the chain is one of n, and the size has 16 bits
abbrev pub Proper : (n : ℕ) → Request → Type 0
Proper n (put i handle size) = (i < n) × (size < 65536)
Proper n (take i) = i < n

abbrev pub AllProper : (n : ℕ) → List Request → Type 0
AllProper n requests = Every (Proper n) requests

-- what a request is answered
pub data Outcome : Type 0 where
  stored : Outcome
  taken : Packet → Outcome
  -- the chains hold as many packets as there are slots
  full : Outcome
  -- the chain holds no packet
  empty : Outcome
  -- a link to no slot
  lost : Outcome

abbrev pub outcome_of : Chains → Request → Outcome
outcome_of h (put i handle size) =
    cond (leb h.slots (held h)) full
    (cond (link_refused h.slots h.sizes h.store.freed h.store.spare) lost
    stored)
outcome_of h (take i) =
    let c = chain_at h i in
    cond (eqb c.count 0) empty
    (cond (link_refused h.slots h.sizes c.ends.head c.count) lost
    (taken (packet_at h.handles h.sizes c.ends.head)))

-- only a packet that is stored or taken changes anything
abbrev pub after_outcome : Chains → Request → Outcome → Chains
after_outcome h (put i handle size) stored = after_put h i handle size
after_outcome h (put i handle size) (taken p) = h
after_outcome h (put i handle size) full = h
after_outcome h (put i handle size) empty = h
after_outcome h (put i handle size) lost = h
after_outcome h (take i) stored = h
after_outcome h (take i) (taken p) = after_take h i
after_outcome h (take i) full = h
after_outcome h (take i) empty = h
after_outcome h (take i) lost = h

abbrev pub after : Chains → Request → Chains
after h q = after_outcome h q (outcome_of h q)

abbrev pub outcomes : Chains → List Request → List Outcome
outcomes h [] = []
outcomes h (q ∷ qs) = outcome_of h q ∷ outcomes (after h q) qs
