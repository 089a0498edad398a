-- Q-3, of any kind of queue that sheds load by PIE: over any list of calls, refused ones and other kinds of call anywhere between, the
-- probabilities added after one early verdict, up to and with a later one, come to at least 0.85.
use Rattle.std.specs.Prelude.{◌≡◌, true, List, [], ◌∷◌, ◌++◌, ◌*◌, ◌≤◌}
use Rattle.units.specs.Kinds.{whole}
use Rattle.calls.specs.Traces.{Entry, trace}
use Rattle.pie_guarantees.specs.Shedding.{Shedding, Sheds}
use Rattle.pie_guarantees.specs.Spacing.{tells_early, added}

abbrev pub EarlyAtLeastApart : Type 1
EarlyAtLeastApart =
    (k : Shedding) → Sheds k → (start : k.kind.State) (calls : List k.kind.Call) →
    (before : List (Entry k.kind)) (first : Entry k.kind) (between : List (Entry k.kind)) (next : Entry k.kind) →
    (later : List (Entry k.kind)) → trace k.kind start calls ≡ before ++ first ∷ (between ++ next ∷ later) →
    tells_early (k.tells first.answer) ≡ true → tells_early (k.tells next.answer) ≡ true →
    17 * whole ≤ 20 * added k (between ++ next ∷ [])
