-- Fairness over lists of calls with smaller packets: of two flows that have packets at the start and wherever a departure is accepted,
-- where no packet that the calls hand out is larger than `most` and neither flow owes more at the start, the bytes handed out of one
-- exceed those of the other by less than two such packets and two quanta.
use Rattle.std.specs.Prelude.{◌≢◌, ℕ, ◌+◌, ◌*◌, ◌≤◌, ◌<◌}
use mathlib.Core.List.{List, Memᴰ}
use Rattle.calls.specs.Traces.{Entry, trace}
use Rattle.schedule.specs.Ring.{deficit_of}
use Rattle.schedule.specs.TwoLists.{quantum, zero_deficit}
use Rattle.fq_rules.specs.Answer.{size_in}
use Rattle.fq_guarantees.specs.Calls.{Call}
use Rattle.fq_guarantees.specs.Kept.{Sound}
use Rattle.fq_guarantees.specs.Lists.{fq_calls}
use Rattle.fq_guarantees.specs.SixtyFour.{Record64}
use Rattle.fq_guarantees.specs.Fairness.{bytes_served, Backlogged}

-- no packet that these calls hand out is larger
abbrev pub HandOutAtMost : (most : ℕ) → List (Entry fq_calls) → Type 0
HandOutAtMost most entries = (a : Entry fq_calls) → Memᴰ a entries → size_in a.answer.answer ≤ most

abbrev pub FairnessBySize : Type 0
FairnessBySize =
    (start : Record64) (calls : List Call) (f g most : ℕ) → Sound start.state → f ≢ g →
    HandOutAtMost most (trace fq_calls start calls) →
    zero_deficit ≤ deficit_of start.state.schedule f + most → zero_deficit ≤ deficit_of start.state.schedule g + most →
    Backlogged f start calls → Backlogged g start calls →
    bytes_served f (trace fq_calls start calls) < bytes_served g (trace fq_calls start calls) + 2 * (most + quantum)
