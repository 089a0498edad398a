use mathlib.Core.Path.{◌≡◌}
use Prim.Native.Nat.{◌-◌, ◌≤◌}
use lib.ListN.{length}
use Rattle.script_program.specs.Feeds.{Feeds}
use Rattle.script_program.proofs.feed_piece.Given as goal

abbrev pub invariant-loop-at : goal.invariant-loop-at
invariant-loop-at g l =
    (length l.handles ≡ length l.initial.handles)
    × (length l.sizes ≡ length l.initial.sizes)
    × (length l.output ≡ length l.initial.output)
    × (l.at ≤ length l.input)
    × Feeds l.initial.runner l.initial.handles l.initial.sizes l.input l.at l.runner l.handles l.sizes

abbrev pub decreases-loop-at : goal.decreases-loop-at
decreases-loop-at g l = length l.input - l.at
