-- The bound of Fairness is reached, in lists that arise from empty ones: flow 0, which has just entered, is served 134,097 bytes more than
-- flow 1, which owes 65,535.
use Rattle.std.specs.Prelude.{◌≡◌, replicate}
use mathlib.Core.List.{List, [], ◌∷◌, ◌++◌, foldl}
use Rattle.schedule.specs.TwoLists.{lists, zero_deficit}
use Rattle.schedule_guarantees.specs.Stretch.{AllFit, Event, Line, Waits, after, arrives, departs, served}
use Rattle.schedule_guarantees.specs.Kept.{Sound}

-- as at fresh: no packets, both lists empty, each deficit 0
abbrev pub no_flows : Line
no_flows = record { counts = replicate 64 0; lists = lists [] [] (replicate 64 zero_deficit) }

-- flow 1 enters with 1,514 and is served to −1; it goes to the old list with 1,513, is served to 0, and from 0 to −65,535; flow 0 enters
abbrev pub earlier : List Event
earlier = replicate 103 (arrives 1) ++ departs 1515 ∷ departs 1513 ∷ departs 65535 ∷ replicate 100 (arrives 0)

-- flow 0 in the new list, flow 1 in the old one, with 100 packets each; the deficits are 1,514 and −65,535
abbrev pub two_flows : Line
two_flows =
    record {
      counts = 100 ∷ 100 ∷ replicate 62 0;
      lists = lists (0 ∷ []) (1 ∷ []) (67049 ∷ 0 ∷ replicate 62 65535);
    }

-- flow 0 is served the first 45 and the last two, flow 1 the one between
abbrev pub departures : List Event
departures = departs 1515 ∷ replicate 44 (departs 1514) ++ departs 1082 ∷ departs 1513 ∷ departs 65535 ∷ []

abbrev pub FairnessReached : Type 0
FairnessReached =
    (foldl after no_flows earlier ≡ two_flows)
    × Sound two_flows.counts two_flows.lists
    × AllFit 65535 departures
    × Waits 0 65535 two_flows departures
    × Waits 1 65535 two_flows departures
    × (served 0 two_flows departures ≡ 135179)
    × (served 1 two_flows departures ≡ 1082)
