-- `most_left`: neither a tick nor a row leaves more than 2^32.
use mathlib.Core.Bool.{false}
use native.Mathlib.Omega.{arith}
use Rattle.pie.specs.Update.{table}
use Rattle.pie.proofs.Ranges.{next-prob-le}
use Rattle.recovery.proofs.Rows.{below}
use Rattle.recovery.proofs.most_left.Goals as goal

pub returns-clause-upper_bound : goal.returns-clause-upper_bound
returns-clause-upper_bound c =
    omega (arith, c.max.ensures, c.left_of.ensures, c.row_before.ensures, next-prob-le false c.args.b 0 0 c.args.target, below table c.args.b)
