-- What deficit round robin is for: over any stretch of arrivals and departures in which two flows have packets whenever a flow is chosen,
-- the bytes served to one exceed those served to the other by less than two largest packets and two quanta.
use Rattle.std.specs.Prelude.{◌≢◌, List, ℕ, ◌+◌, ◌*◌, ◌≤◌, ◌<◌}
use Rattle.schedule.specs.TwoLists.{quantum}
use Rattle.schedule_guarantees.specs.Kept.{Sound}
use Rattle.schedule_guarantees.specs.Stretch.{AllFit, Event, Line, Waits, served}

-- f and g may be swapped, so neither is that far ahead of the other; with packets of up to 65,535 bytes it is less than 134,098
abbrev pub Fairness : Type 0
Fairness =
    (l : Line) (events : List Event) (f g most : ℕ) → Sound l.counts l.lists → f ≢ g → most ≤ 65535 → AllFit most events →
    Waits f most l events → Waits g most l events → served f l events < served g l events + 2 * (most + quantum)
