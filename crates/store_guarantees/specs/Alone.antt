-- A chain by itself: as long as none of its puts finds the slots used up, its answers are those of one list of packets to its own
-- requests.
use Rattle.std.specs.Prelude.{◌≡◌, Bool, true, false, cond, ◌||◌, List, [], ◌∷◌, ◌++◌, ℕ, eqb, length}
use Rattle.calls.specs.Packets.{Packet}
use Rattle.store_guarantees.specs.AsLists.{head_outcome, without_head}
use Rattle.store_guarantees.specs.Chains.{Chains, packets_in}
use Rattle.store_guarantees.specs.Requests.{AllProper, Outcome, Request, after, chain_of, empty}
use Rattle.store_guarantees.specs.Requests.{full, lost, outcome_of, put, stored, take, taken}
use Rattle.store_guarantees.specs.Sound.{Sound}

-- ── one list of packets, with no limit ──

abbrev pub alone_outcome : List Packet → Request → Outcome
alone_outcome ps (put i handle size) = stored
alone_outcome ps (take i) = head_outcome ps

abbrev pub alone_after : List Packet → Request → List Packet
alone_after ps (put i handle size) = ps ++ record { handle = handle; size = size } ∷ []
alone_after ps (take i) = without_head ps

abbrev pub alone_outcomes : List Packet → List Request → List Outcome
alone_outcomes ps [] = []
alone_outcomes ps (q ∷ qs) = alone_outcome ps q ∷ alone_outcomes (alone_after ps q) qs

-- ── one chain of several ──

-- the requests on chain i
abbrev pub own : (chain : ℕ) → List Request → List Request
own i [] = []
own i (q ∷ qs) = cond (eqb (chain_of q) i) (q ∷ own i qs) (own i qs)

-- and their answers
abbrev pub own_outcomes : (chain : ℕ) → Chains → List Request → List Outcome
own_outcomes i h [] = []
own_outcomes i h (q ∷ qs) =
    cond (eqb (chain_of q) i) (outcome_of h q ∷ own_outcomes i (after h q) qs) (own_outcomes i (after h q) qs)

abbrev pub is_full : Outcome → Bool
is_full stored = false
is_full (taken p) = false
is_full full = true
is_full empty = false
is_full lost = false

abbrev pub any_full : List Outcome → Bool
any_full [] = false
any_full (o ∷ os) = is_full o || any_full os

abbrev pub Alone : Type 0
Alone =
    (i : ℕ) (h : Chains) (requests : List Request) → Sound h → AllProper (length h.chains) requests →
    any_full (own_outcomes i h requests) ≡ false →
    own_outcomes i h requests ≡ alone_outcomes (packets_in h i) (own i requests)
