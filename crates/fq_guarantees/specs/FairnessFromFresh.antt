-- Fairness after any calls from an accepted fresh call, if no call since then handed out a packet larger than `most`: of two flows that
-- have packets where `calls` begin and wherever a departure among them is accepted, the bytes that `calls` hand out of one exceed those of
-- the other by less than two packets of `most` bytes and two quanta.
use Rattle.std.specs.Prelude.{◌≡◌, ◌≢◌, ℕ, ◌+◌, ◌*◌, ◌<◌}
use mathlib.Core.List.{List, ◌++◌, foldl}
use Rattle.calls.specs.Traces.{trace}
use Rattle.schedule.specs.TwoLists.{quantum}
use Rattle.fq_state.specs.Fresh.{fresh_refusal}
use Rattle.fq_state.specs.declared.Settings.{Settings}
use Rattle.fq_guarantees.specs.Calls.{Call}
use Rattle.fq_guarantees.specs.Lists.{fq_calls}
use Rattle.fq_guarantees.specs.SixtyFour.{fresh64}
use Rattle.fq_guarantees.specs.Fairness.{bytes_served, Backlogged}
use Rattle.fq_guarantees.specs.FairnessBySize.{HandOutAtMost}

abbrev pub FairnessFromFresh : Type 0
FairnessFromFresh =
    (settings : Settings) (clock : ℕ) (earlier calls : List Call) (f g most : ℕ) → fresh_refusal settings clock ≡ 0 → f ≢ g →
    HandOutAtMost most (trace fq_calls (fresh64 settings clock) (earlier ++ calls)) →
    let start = foldl fq_calls.next (fresh64 settings clock) earlier in
    Backlogged f start calls → Backlogged g start calls →
    bytes_served f (trace fq_calls start calls) < bytes_served g (trace fq_calls start calls) + 2 * (most + quantum)
