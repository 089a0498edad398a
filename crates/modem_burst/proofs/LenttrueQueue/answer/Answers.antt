-- The flow stays ready for the calls that are left.
use Rattle.modem_burst.proofs.LenttrueQueue.answer.Goals as goal
use mathlib.Core.Path.{subst, sym}
use Rattle.modem_words.specs.Lent.{Lent}
use Rattle.modem_steps.specs.Fitting.{Ready}
use Rattle.modem_burst.proofs.Kept.{ready-kept}

pub returns-clause-ready_after : goal.returns-clause-ready_after
returns-clause-ready_after c = λ n r. subst (λ (q : Lent). Ready c.args.self.now.flow q n) (sym c.known.ensures.1) (ready-kept _ _ _ n r)
