-- Whatever another flow sends: over any list of calls from a well-formed record that is handed back at each call, whatever tables are
-- lent, the answers hand out at most twice the bytes of a flow that has packets at the start and wherever a departure is accepted, and
-- 204,175 bytes, of any other flow, also of one that empties and enters again (crate schedule_guarantees: `NeverStarved`).
use Rattle.std.specs.Prelude.{◌≢◌, List, ℕ, ◌+◌, ◌*◌, ◌≤◌}
use Rattle.calls.specs.Traces.{trace}
use Rattle.fq_guarantees.specs.Calls.{Call}
use Rattle.fq_guarantees.specs.Fairness.{Backlogged, bytes_served}
use Rattle.fq_guarantees.specs.Kept.{Sound}
use Rattle.fq_guarantees.specs.Lists.{fq_calls}
use Rattle.fq_guarantees.specs.SixtyFour.{Record64}

-- 204,175 is 3 × 65,535 + 5 × 1,514
abbrev pub NeverStarved : Type 0
NeverStarved =
    (start : Record64) (calls : List Call) (f g : ℕ) → Sound start.state → f ≢ g → Backlogged f start calls →
    bytes_served g (trace fq_calls start calls) ≤ 2 * bytes_served f (trace fq_calls start calls) + 204175
