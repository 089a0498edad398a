-- The queue stays ready for the calls that are left.
use Rattle.ring_burst.proofs.LenttrueQueue.answer.Goals as goal
use mathlib.Core.Path.{subst, sym}
use Rattle.ring_words.specs.Lent.{Lent}
use Rattle.ring_steps.specs.Fitting.{Ready}
use Rattle.ring_burst.proofs.Kept.{ready-after}

pub returns-clause-ready_after : goal.returns-clause-ready_after
returns-clause-ready_after c = λ n r. subst (λ (q : Lent). Ready q n) (sym c.known.ensures.sizes_after) (ready-after _ _ n r)
