-- `stays_inactive`: an inactive flow stays so, or becomes quiescent.
use Rattle.modem_steps.proofs.arriving.stays_inactive.Goals as goal
use mathlib.Core.Path.{refl, sym, ◌∙◌}

pub returns-then-stays-clause-value : goal.returns-then-stays-clause-value
returns-then-stays-clause-value c =
    let a = c.before.before.before.before.before.before in
    rw (c.before.before.before.if-inactive.true, sym c.before.below_third-stays.ensures ∙ c.if-stays.true) refl

pub returns-else-stays-clause-value : goal.returns-else-stays-clause-value
returns-else-stays-clause-value c =
    let a = c.before.before.before.before.before.before in
    rw (c.before.before.before.if-inactive.true, sym c.before.below_third-stays.ensures ∙ c.if-stays.false) refl
