-- `left_of`: the update's probability.
use mathlib.Core.Path.{ap, ◌∙◌}
use Rattle.pie.specs.declared.Pie.{Pie}
use Rattle.recovery.proofs.Rows.{left_after}
use Rattle.recovery.proofs.left_of.Goals as goal

pub returns : goal.returns
returns c =
    ap (λ (q : Pie). q.prob.0) c.update.ensures ∙ left_after _ _ (ap (λ (q : Pie). q.old.0) c.restarted.ensures)
