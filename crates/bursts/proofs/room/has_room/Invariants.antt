use Rattle.std.proofs.Common.{◌≡◌, ◌+◌, drop}
use Rattle.pie.specs.Verdicts.{total}
use Rattle.bursts.proofs.room.has_room.Given as goal

-- the counts so far and those to come are all
abbrev pub invariant-loop-count : goal.invariant-loop-count
invariant-loop-count l = l.sum + total (drop l.count-index l.fn.counts) ≡ total l.fn.counts
