-- Whatever another flow does, also if it empties and enters again: over any stretch in which a flow has packets whenever one is chosen, the
-- other is served at most twice its bytes, and a constant. So while it is not served the other is served at most 204,175 bytes.
use Rattle.std.specs.Prelude.{◌≢◌, List, ℕ, ◌+◌, ◌*◌, ◌≤◌}
use Rattle.schedule.specs.TwoLists.{deficit_of, quantum, zero_deficit}
use Rattle.schedule_guarantees.specs.Stretch.{AllFit, Event, Line, Waits, served}
use Rattle.schedule_guarantees.specs.Kept.{Sound}

-- of the other only this is asked: its deficit at the start is at least −most, which holds by itself for packets of up to 65,535 bytes
abbrev pub NeverStarved : Type 0
NeverStarved =
    (l : Line) (events : List Event) (f g most : ℕ) → Sound l.counts l.lists → f ≢ g → most ≤ 65535 → AllFit most events →
    Waits f most l events → zero_deficit ≤ deficit_of l.lists g + most →
    served g l events ≤ 2 * served f l events + (3 * most + 5 * quantum)
