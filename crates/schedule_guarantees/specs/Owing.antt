-- No flow owes more than a largest packet: where each deficit is at least −most, and an event is an arrival or the departure of a packet
-- that is no larger, each is so after it. At fresh each deficit is 0.
use Rattle.std.specs.Prelude.{ℕ, ◌+◌, ◌≤◌, ◌<◌, get_or}
use Rattle.schedule.specs.TwoLists.{TwoLists, deficit_of, zero_deficit}
use Rattle.schedule_guarantees.specs.Kept.{Sound}
use Rattle.schedule_guarantees.specs.Stretch.{Event, Fits, Line, after, arrives, departs}

abbrev pub OweAtMost : (most : ℕ) → TwoLists → Type 0
OweAtMost most s = (flow : ℕ) → flow < 64 → zero_deficit ≤ deficit_of s flow + most

-- where a departure chooses, some flow has a packet
abbrev pub SomeHas : Line → Event → Type 0
SomeHas l (arrives other) = Unit {0}
SomeHas l (departs size) = (flow : ℕ) × (1 ≤ get_or l.counts flow 0)

abbrev pub Owing : Type 0
Owing =
    (l : Line) (e : Event) (most : ℕ) → Sound l.counts l.lists → Fits most e → SomeHas l e →
    OweAtMost most l.lists → OweAtMost most (after l e).lists
