-- Fairness over lists of calls. Over any list of calls, accepted or refused, from a well-formed record that is handed back at each call,
-- whatever tables are lent: of two flows that have packets at the start and wherever a departure is accepted, the bytes that the answers
-- hand out of one exceed those of the other by less than two largest packets and two quanta (crate schedule_guarantees: `Fairness`).
use Rattle.std.specs.Prelude.{◌≡◌, true, cond, ◌≢◌, ℕ, ◌+◌, ◌≤◌, ◌<◌, eqb}
use mathlib.Core.List.{List, Memᴰ, map}
use Rattle.pie.specs.Verdicts.{total}
use Rattle.calls.specs.Traces.{Entry, trace}
use Rattle.fq_rules.specs.Answer.{Answer, departed, departs, refused, ticked, verdict}
use Rattle.fq_guarantees.specs.Calls.{Call}
use Rattle.fq_guarantees.specs.Kept.{Sound}
use Rattle.fq_guarantees.specs.Lists.{fq_calls}
use Rattle.fq_guarantees.specs.Shedding.{own}
use Rattle.fq_guarantees.specs.SixtyFour.{Record64}

-- the bytes of a flow that an answer hands out, and those that the answers of a list of calls do
abbrev pub handed_out : (flow : ℕ) → Answer → ℕ
handed_out flow (refused number) = 0
handed_out flow (verdict v) = 0
handed_out flow (departed from handle size) = cond (eqb from flow) size 0
handed_out flow ticked = 0

abbrev pub bytes_served : (flow : ℕ) → List (Entry fq_calls) → ℕ
bytes_served flow entries = total (map (λ e. handed_out flow e.answer.answer) entries)

-- a flow has packets at the start and wherever a departure is accepted
pub record Backlogged (flow : ℕ) (start : Record64) (calls : List Call) : Type 0 where
  pub at-start : 1 ≤ (own flow start.state).count
  pub at_each : (a : Entry fq_calls) → Memᴰ a (trace fq_calls start calls) → departs a.answer.answer ≡ true →
      1 ≤ (own flow a.given.state).count

-- 134,098 is 2 × (65,535 + 1,514); f and g may be swapped
abbrev pub Fairness : Type 0
Fairness =
    (start : Record64) (calls : List Call) (f g : ℕ) → Sound start.state → f ≢ g → Backlogged f start calls → Backlogged g start calls →
    bytes_served f (trace fq_calls start calls) < bytes_served g (trace fq_calls start calls) + 134098
