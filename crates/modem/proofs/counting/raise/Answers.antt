-- `raise`: a count is at most its row's total, so it can rise.
use native.Mathlib.Omega.{arith}
use Rattle.pie.proofs.Counts.{count-le-total}
use Rattle.modem.specs.Counts.{row_of}
use Rattle.modem.proofs.counting.raise.Goals as goal

pub overflow_add-counts : goal.overflow_add-counts
overflow_add-counts c = omega (arith, c.requires.1, count-le-total (row_of c.args.counts.now c.args.row) c.place.result)
