-- Twice is reached in the long run, so Fairness asks of both flows that they have packets: flow 1 empties and enters again, each time with
-- a quantum anew, and is served 3,028 bytes for each 1,514 of flow 0.
use Rattle.std.specs.Prelude.{◌≡◌, List, [], ◌∷◌, ℕ, zero, suc, replicate}
use Rattle.schedule.specs.TwoLists.{lists}
use Rattle.schedule_guarantees.specs.Stretch.{Event, Line, arrives, departs, served}
use Rattle.schedule_guarantees.specs.Kept.{Sound}

-- flow 0 stands in the old list with 200 packets and a deficit of −1; flow 1 is not listed
abbrev pub one_listed : Line
one_listed =
    record {
      counts = 200 ∷ replicate 63 0;
      lists = lists [] (0 ∷ []) (65534 ∷ replicate 63 65535);
    }

-- a packet of flow 1 arrives and leaves, and one of flow 0 leaves
abbrev pub rounds : (n : ℕ) → List Event
rounds zero = []
rounds (suc n) = arrives 1 ∷ departs 3028 ∷ departs 1514 ∷ rounds n

abbrev pub TwiceAsMuch : Type 0
TwiceAsMuch =
    Sound one_listed.counts one_listed.lists
    × (served 0 one_listed (rounds 100) ≡ 151400)
    × (served 1 one_listed (rounds 100) ≡ 302800)
