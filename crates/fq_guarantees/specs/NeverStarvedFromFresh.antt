-- Whatever another flow sends, after any calls from an accepted fresh call, if no call since then handed out a packet larger than `most`:
-- `calls` hand out at most twice the bytes of a flow that has packets where they begin and wherever a departure among them is accepted, and
-- three packets of `most` bytes and five quanta, of any other flow.
use Rattle.std.specs.Prelude.{◌≡◌, ◌≢◌, ℕ, ◌+◌, ◌*◌, ◌≤◌}
use mathlib.Core.List.{List, ◌++◌, foldl}
use Rattle.calls.specs.Traces.{trace}
use Rattle.schedule.specs.TwoLists.{quantum}
use Rattle.fq_state.specs.Fresh.{fresh_refusal}
use Rattle.fq_state.specs.declared.Settings.{Settings}
use Rattle.fq_guarantees.specs.Calls.{Call}
use Rattle.fq_guarantees.specs.Fairness.{Backlogged, bytes_served}
use Rattle.fq_guarantees.specs.FairnessBySize.{HandOutAtMost}
use Rattle.fq_guarantees.specs.Lists.{fq_calls}
use Rattle.fq_guarantees.specs.SixtyFour.{fresh64}

abbrev pub NeverStarvedFromFresh : Type 0
NeverStarvedFromFresh =
    (settings : Settings) (clock : ℕ) (earlier calls : List Call) (f g most : ℕ) → fresh_refusal settings clock ≡ 0 → f ≢ g →
    HandOutAtMost most (trace fq_calls (fresh64 settings clock) (earlier ++ calls)) →
    let start = foldl fq_calls.next (fresh64 settings clock) earlier in
    Backlogged f start calls →
    bytes_served g (trace fq_calls start calls) ≤ 2 * bytes_served f (trace fq_calls start calls) + (3 * most + 5 * quantum)
