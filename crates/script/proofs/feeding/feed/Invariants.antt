use mathlib.Core.Path.{◌≡◌}
use mathlib.Core.List.{[]}
use Prim.Native.Nat.{◌-◌, ◌≤◌}
use lib.ListN.{length}
use Rattle.script.specs.Feeding.{machine}
use Rattle.script.specs.Turn.{Follows}
use Rattle.script.proofs.feeding.feed.Given as goal

abbrev pub invariant-loop-scanned : goal.invariant-loop-scanned
invariant-loop-scanned l =
    (length l.handles ≡ length l.initial.handles)
    × (length l.sizes ≡ length l.initial.sizes)
    × (length l.output ≡ length l.initial.output)
    × (l.taken ≤ length l.input)
    × (l.written ≤ length l.output)
    × Follows (machine (record { session = l.initial.session; reader = l.initial.reader }) l.initial.handles l.initial.sizes []) l.input (record { runner = record { session = l.session; reader = l.reader }; taken = l.taken; written = l.written }) l.handles l.sizes l.output

abbrev pub decreases-loop-scanned : goal.decreases-loop-scanned
decreases-loop-scanned l =
    length l.input - l.taken
