-- Q-3, of any kind of queue that sheds load by PIE: over any list of calls from any well-formed state, refused ones and other kinds of
-- call anywhere between, the probabilities added while no early verdict comes and the queue does not turn active come to less than 8.5.
use Rattle.std.specs.Prelude.{◌≡◌, Bool, false, not, ◌&&◌, ◌<◌}
use mathlib.Core.List.{List, ◌++◌, Memᴰ}
use Rattle.pie.specs.Constants.{most_accumulated}
use Rattle.calls.specs.Traces.{Entry, trace}
use Rattle.pie_guarantees.specs.Shedding.{Shedding, Sheds}
use Rattle.pie_guarantees.specs.Spacing.{tells_early, added}

-- an inactive queue turns active: what it has accumulated is 0 then (Q-12)
abbrev pub activates : (k : Shedding) → Entry k.kind → Bool
activates k e = not (k.active e.given) && k.active e.returned

abbrev pub EarlyAtMostApart : Type 1
EarlyAtMostApart =
    (k : Shedding) → Sheds k → (start : k.kind.State) (calls : List k.kind.Call) →
    (before between later : List (Entry k.kind)) → k.Formed start → trace k.kind start calls ≡ before ++ (between ++ later) →
    ((a : Entry k.kind) → Memᴰ a between → (tells_early (k.tells a.answer) ≡ false) × (activates k a ≡ false)) →
    added k between < most_accumulated
