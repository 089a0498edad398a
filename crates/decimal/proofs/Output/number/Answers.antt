-- `Output::number`: what `format` wrote is the number's digits.
use Rattle.decimal.proofs.Decimal.{digits-decimal}
use Rattle.decimal.proofs.Joins.{within}
use Rattle.decimal.proofs.Places.{digits-length}
use Rattle.decimal.proofs.Output.number.Goals as goal

pub returns : goal.returns
returns c =
    let n = c.args.n in
    let is = digits-decimal n c.ranges.n.fits in
    let short = digits-length n in
    let wrote = rw (c.as_bytes.ensures.value, c.format.ensures.text, ← is) at c.text.ensures in
    within 20 wrote short
