-- Where a stretch ends.
use mathlib.Core.List.{List, [], ◌∷◌}
use Rattle.schedule_guarantees.specs.Stretch.{Event, Line, after}

unfoldable pub final : Line → List Event → Line
final l [] = l
final l (e ∷ events) = final (after l e) events
