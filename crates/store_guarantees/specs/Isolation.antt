-- The answers to one chain's requests depend on these alone: two stores with the same packets in the chain, and two lists of requests
-- that are the same on it, answer it alike, as long as none of its puts finds the slots used up.
use Rattle.std.specs.Prelude.{◌≡◌, false, List, ℕ, length}
use Rattle.store_guarantees.specs.Chains.{Chains, packets_in}
use Rattle.store_guarantees.specs.Requests.{AllProper, Request}
use Rattle.store_guarantees.specs.Sound.{Sound}
use Rattle.store_guarantees.specs.Alone.{own, own_outcomes, any_full}

abbrev pub Isolation : Type 0
Isolation =
    (i : ℕ) (h h' : Chains) (requests requests' : List Request) → Sound h → Sound h' →
    AllProper (length h.chains) requests → AllProper (length h'.chains) requests' →
    packets_in h i ≡ packets_in h' i → own i requests ≡ own i requests' →
    any_full (own_outcomes i h requests) ≡ false → any_full (own_outcomes i h' requests') ≡ false →
    own_outcomes i h requests ≡ own_outcomes i h' requests'
