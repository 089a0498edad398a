-- An inactive queue that is never more than a third full stays inactive, and turns no packet away but by rules 1 and 2 (Q-12): over any
-- list of calls from an inactive state, with any tables lent to each.
use Rattle.std.specs.Prelude.{◌≡◌, false, ◌*◌, ◌≤◌}
use mathlib.Core.List.{List, Memᴰ}
use Rattle.ring.specs.declared.State.{State}
use Rattle.ring_guarantees.specs.Calls.{ByLimits, Entry, trace}
use Rattle.ring.specs.Calls.{Call}

-- three times the queued bytes are at most the buffer
abbrev pub AtMostAThird : State → Type 0
AtMostAThird s = 3 * s.backlog.bytes.0 ≤ s.settings.buffer.0

abbrev pub StaysInactive : Type 0
StaysInactive =
    (start : State) (calls : List Call) → start.active ≡ false →
    ((a : Entry) → Memᴰ a (trace start calls) → AtMostAThird a.given) →
    (a : Entry) → Memᴰ a (trace start calls) → (a.returned.active ≡ false) × ByLimits a
