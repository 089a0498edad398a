-- 26, where some flow has a packet: choosing ends at a listed flow that has a packet and a deficit that is not negative, after at most
-- 2,879 moves; with any more looks allowed it gives the same flow and the same lists, by the same moves.
use Rattle.std.specs.Prelude.{◌≡◌, true, List, ℕ, ◌+◌, ◌≤◌, ◌<◌, get_or, length}
use Rattle.schedule.specs.Choosing.{Choice, choose, choose_in, most_looks}
use Rattle.schedule.specs.Entering.{is_listed}
use Rattle.schedule.specs.TwoLists.{TwoLists, deficit_of, zero_deficit}
use Rattle.schedule_guarantees.specs.Kept.{Sound}

-- the flow to serve, in the lists as they then stand
pub record MayBeServed (counts : List ℕ) (c : Choice) : Type 0 where
  pub is-flow : c.flow < 64
  pub is-listed : is_listed c.lists c.flow ≡ true
  pub holds : 1 ≤ get_or counts c.flow 0
  pub not_negative : zero_deficit ≤ deficit_of c.lists c.flow

abbrev pub ChoosingEnds : Type 0
ChoosingEnds =
    (counts : List ℕ) (l : TwoLists) (flow : ℕ) → Sound counts l → 1 ≤ get_or counts flow 0 →
    MayBeServed counts (choose counts l)
    × ((looks : ℕ) → length (choose_in looks counts l).moved ≤ 2879)
    × ((more : ℕ) → choose_in (most_looks + more) counts l ≡ choose counts l)
