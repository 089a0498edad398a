-- `refusal`: what was tested before fits.
use mathlib.Core.Path.{sym}
use mathlib.Core.Bool.{false≢true}
use Rattle.pair_burst.proofs.one.refusal.Goals as goal

pub returns-then-tested-clause-fitting_2 : goal.returns-then-tested-clause-fitting_2
returns-then-tested-clause-fitting_2 c = λ e. c.requires.fitting c.if-tested.true

pub returns-then-tested-clause-stays : goal.returns-then-tested-clause-stays
returns-then-tested-clause-stays c = λ e. absurd (false≢true (sym e))
