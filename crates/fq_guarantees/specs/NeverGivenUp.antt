-- From fresh no measurement of any flow is given up (Q-6): over any list of calls from an accepted fresh call, whatever tables are lent to
-- each, a measurement ends before the flow empties, or as it does (`GivesNothingUp`, crate pie_guarantees).
use Rattle.std.specs.Prelude.{◌≡◌, ℕ, ◌<◌}
use mathlib.Core.List.{List, Memᴰ}
use Rattle.calls.specs.Traces.{Entry, trace}
use Rattle.pie_guarantees.specs.NeverGivenUp.{GivesNothingUp}
use Rattle.fq_state.specs.Fresh.{fresh_refusal}
use Rattle.fq_state.specs.declared.Settings.{Settings}
use Rattle.fq_guarantees.specs.Calls.{Call}
use Rattle.fq_guarantees.specs.Lists.{fq_calls}
use Rattle.fq_guarantees.specs.Shedding.{flow_queue}
use Rattle.fq_guarantees.specs.SixtyFour.{fresh64}

abbrev pub NeverGivenUp : Type 0
NeverGivenUp =
    (f : ℕ) (settings : Settings) (clock : ℕ) (calls : List Call) → f < 64 → fresh_refusal settings clock ≡ 0 →
    (a : Entry fq_calls) → Memᴰ a (trace fq_calls (fresh64 settings clock) calls) → GivesNothingUp (flow_queue f) a
