use mathlib.Core.Path.{◌≡◌}
use Prim.Native.Nat.{◌+◌, ◌-◌, ◌≤◌}
use Rattle.units.specs.Kinds.{whole}
use Rattle.pie_guarantees.specs.TicksToRecover.{ticks_until_none}
use Rattle.recovery.proofs.ticks_until_none.Given as goal

-- the ticks so far and those still to be counted are all
abbrev pub invariant-loop-ticks : goal.invariant-loop-ticks
invariant-loop-ticks l =
    (l.b ≤ whole) × (l.ticks + ticks_until_none (1000 - l.ticks) l.target l.b ≡ ticks_until_none 1000 l.target whole)
