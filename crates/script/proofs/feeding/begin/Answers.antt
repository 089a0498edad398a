-- `begin`: the parts are those of the start; a fresh call with settings of 0 is refused.
use mathlib.Core.Path.{ap}
use Rattle.ring.specs.Fresh.{fresh}
use Rattle.script.proofs.feeding.begin.Goals as goal

pub returns : goal.returns
unfolding fresh
returns c = simp (c.begin.ensures, ap (λ q. q.state) c.fresh-none.ensures)
