use mathlib.Core.Path.{◌≡◌}
use Rattle.lines.specs.Scan.{Along}
use Rattle.lines.specs.declared.Phase.TheVariants.{Digits}
use Rattle.lines.proofs.scanning.read_digits.Given as goal

abbrev pub invariant-loop-at : goal.invariant-loop-at
invariant-loop-at l = (l.reader.phase ≡ Digits) × Along l.input l.initial.reader l.from (record { reader = l.reader; at = l.at })
