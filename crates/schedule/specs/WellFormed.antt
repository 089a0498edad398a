-- 23, lists: each deficit from −65,535 to 1,514, listed or not; the first place below 64; at most 64 flows in both lists; each entry below
-- 64; no entry equals another, in its list or the other; each flow with a packet is listed.
use Rattle.std.specs.Prelude.{Bool, true, ◌≡◌, ◌&&◌, ◌||◌, List, [], ◌∷◌, ℕ, zero, suc, ◌+◌, eqb, leb, ltb, get_or}
use Rattle.schedule.specs.Ring.{Schedule, ring_of, two_lists}
use Rattle.schedule.specs.TwoLists.{TwoLists, deficit_of, listed, quantum, zero_deficit}
use Rattle.schedule.specs.declared.Lists.{Lists}

-- a test holds of 0, .., n − 1
unfoldable pub every : (n : ℕ) (test : ℕ → Bool) → Bool
every zero test = true
every (suc n) test = every n test && test n

-- each entry is the number of a flow
unfoldable pub are_flows : List ℕ → Bool
are_flows [] = true
are_flows (x ∷ l) = ltb x 64 && are_flows l

-- of a flow that stands so often in the lists and has so many packets
abbrev pub flow_fits : (times count deficit : ℕ) → Bool
flow_fits times count deficit = leb times 1 && (eqb count 0 || leb 1 times) && leb deficit (zero_deficit + quantum)

-- counts: how many packets each flow has
unfoldable pub lists_well : (counts : List ℕ) → TwoLists → Bool
lists_well counts l =
    are_flows l.new
    && are_flows l.old
    && every 64 (λ flow. flow_fits (listed flow l) (get_or counts flow 0) (deficit_of l flow))

-- where the lists stand in the ring
abbrev pub lists_fit : Lists → Bool
lists_fit l = ltb l.first 64 && leb l.old l.listed && leb l.listed 64

-- they stand there, and only flows do
abbrev pub HoldsFlows : Lists → (order : List ℕ) → Type 0
HoldsFlows l order = (lists_fit l ≡ true) × (are_flows (ring_of order l.first l.listed) ≡ true)

unfoldable pub well_listed : (counts : List ℕ) → Schedule → Bool
well_listed counts s = lists_fit s.lists && lists_well counts (two_lists s)
