-- A full allowance lasts 150,000 microseconds after an accepted tick that fills it, of any kind of queue that sheds load by PIE, from any
-- state: each later accepted arrival with a clock below that tick's + 150,000 is answered by rules 1 and 2 alone, whatever ticks are tried
-- or accepted.
use Rattle.std.specs.Prelude.{◌≡◌, ◌+◌}
use mathlib.Core.List.{List, ◌∷◌, ◌++◌, Memᴰ}
use Rattle.pie.specs.Constants.{full_allowance}
use Rattle.calls.specs.Traces.{Entry, trace}
use Rattle.pie_guarantees.specs.Shedding.{Shedding, Sheds, ticked}
use Rattle.pie_guarantees.specs.AllowanceLasts.{ByLimitsBefore}

abbrev pub Grace : Type 1
Grace =
    (k : Shedding) → Sheds k → (start : k.kind.State) (calls : List k.kind.Call) →
    (before : List (Entry k.kind)) (e : Entry k.kind) (later : List (Entry k.kind)) →
    trace k.kind start calls ≡ before ++ e ∷ later →
    k.tells e.answer ≡ ticked → (k.pie e.returned).allowance.0 ≡ full_allowance →
    (a : Entry k.kind) → Memᴰ a later → ByLimitsBefore k (k.clock e.call + full_allowance) a
