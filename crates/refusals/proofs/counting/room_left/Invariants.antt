use Rattle.std.proofs.Common.{◌≡◌, ◌+◌, ◌≤◌, drop}
use Rattle.pie.specs.Constants.{most_verdicts}
use Rattle.pie.specs.Verdicts.{total}
use Rattle.refusals.proofs.counting.room_left.Given as goal

-- what is left and the counts so far are all
abbrev pub invariant-loop-count : goal.invariant-loop-count
invariant-loop-count l =
    (l.left ≤ most_verdicts) × (l.left + total l.fn.counts ≡ most_verdicts + total (drop l.count-index l.fn.counts))
