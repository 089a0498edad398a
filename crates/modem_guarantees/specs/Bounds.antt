-- The probabilities' bounds: over any list of calls to a flow, from any record that is formed, with any row and any tables lent to each
-- call. The stored probability never exceeds 58,411,555,225 (13.6), nor the accumulated one 36,507,222,016 (8.5), nor the scaled one, of
-- whatever packet, 3,650,722,201 (0.85).
use Rattle.std.specs.Prelude.{◌≡◌, true, ℕ, ◌≤◌}
use mathlib.Core.List.{List, Memᴰ}
use Rattle.docsis_pie.specs.Constants.{high, low, most_prob}
use Rattle.docsis_pie.specs.DropDecision.{scaled_of}
use Rattle.modem_flow.specs.declared.State.{State}
use Rattle.modem_flow.specs.State.{formed}
use Rattle.modem_guarantees.specs.Calls.{Call, Entry, trace}

pub record Bounded (s : State) : Type 0 where
  pub stored : s.pie.prob.0 ≤ most_prob
  pub accumulated : s.pie.accumulated.0 ≤ high
  pub scaled : (size : ℕ) → scaled_of s.pie.prob.0 size ≤ low

abbrev pub Bounds : Type 0
Bounds =
    (start : State) (calls : List Call) → formed start ≡ true →
    (a : Entry) → Memᴰ a (trace start calls) → Bounded a.given × Bounded a.returned
