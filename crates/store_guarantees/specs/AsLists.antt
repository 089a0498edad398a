-- Sound chains as their user sees them: a number of slots and a list of packets for each. There is no place and no link in it.
use Rattle.std.specs.Prelude.{◌≡◌, Bool, cond, List, [], ◌∷◌, ◌++◌, map, ℕ, ◌≤◌, leb, get_or, length, replicate, set}
use Rattle.calls.specs.Packets.{Packet}
use Rattle.pie.specs.Verdicts.{total}
use Rattle.store_guarantees.specs.Chains.{Chains, contents, fresh_chains}
use Rattle.store_guarantees.specs.Requests.{AllProper, Outcome, Proper, Request, after, chain_of, empty}
use Rattle.store_guarantees.specs.Requests.{full, outcome_of, outcomes, put, stored, take, taken}
use Rattle.store_guarantees.specs.Sound.{Sound}

-- no slot is free
abbrev pub all_held : (slots : ℕ) → List (List Packet) → Bool
all_held slots lists = leb slots (total (map length lists))

abbrev pub head_outcome : List Packet → Outcome
head_outcome [] = empty
head_outcome (p ∷ ps) = taken p

abbrev pub without_head : List Packet → List Packet
without_head [] = []
without_head (p ∷ ps) = ps

abbrev pub list_outcome : (slots : ℕ) → List (List Packet) → Request → Outcome
list_outcome slots lists (put i handle size) = cond (all_held slots lists) full stored
list_outcome slots lists (take i) = head_outcome (get_or lists i [])

-- the packets of the request's chain after it
abbrev pub list_after : (slots : ℕ) → List (List Packet) → Request → List Packet
list_after slots lists (put i handle size) =
    cond (all_held slots lists) (get_or lists i []) (get_or lists i [] ++ record { handle = handle; size = size } ∷ [])
list_after slots lists (take i) = without_head (get_or lists i [])

-- no other chain's packets change
abbrev pub lists_after : (slots : ℕ) → List (List Packet) → Request → List (List Packet)
lists_after slots lists q = set lists (chain_of q) (list_after slots lists q)

abbrev pub list_outcomes : (slots : ℕ) → List (List Packet) → List Request → List Outcome
list_outcomes slots lists [] = []
list_outcomes slots lists (q ∷ qs) = list_outcome slots lists q ∷ list_outcomes slots (lists_after slots lists q) qs

-- a call on sound chains is a call on their packets
pub record Refined (h : Chains) (q : Request) : Type 0 where
  pub outcome : outcome_of h q ≡ list_outcome h.slots (contents h) q
  pub contents : contents (after h q) ≡ lists_after h.slots (contents h) q
  pub slots : (after h q).slots ≡ h.slots
  pub chains : length (after h q).chains ≡ length h.chains
  pub sound : Sound (after h q)

abbrev pub Refines : Type 0
Refines = (h : Chains) (q : Request) → Sound h → Proper (length h.chains) q → Refined h q

-- from fresh, with everything handed back untouched: the answers are the lists', whatever the tables held
abbrev pub AsLists : Type 0
AsLists =
    (slots n : ℕ) (handles sizes : List ℕ) (requests : List Request) →
    1 ≤ slots → slots ≤ 65536 → length handles ≡ slots → length sizes ≡ slots → AllProper n requests →
    outcomes (fresh_chains slots n handles sizes) requests ≡ list_outcomes slots (replicate n []) requests
