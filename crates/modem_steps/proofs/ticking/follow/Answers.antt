-- `follow`: each activity's rule.
use mathlib.Core.Path.{refl}
use borrow.Author.Tests.{eq-eqb, ne_eqb}
use Rattle.docsis_pie.specs.Constants.{quiescent}
use Rattle.docsis_pie.specs.Update.{phase_after}
use Rattle.modem_steps.proofs.Words.{activity-same, phase-same}
use Rattle.modem_steps.proofs.ticking.follow.Goals as goal

pub returns-then-quiet : goal.returns-then-quiet
unfolding phase_after
returns-then-quiet c =
    rw (eq-eqb _ _ c.if-was_active.true, c.if-quiet.true) refl

pub returns-then-quiet-2 : goal.returns-then-quiet-2
unfolding phase_after
returns-then-quiet-2 c =
    rw (ne_eqb _ _ c.if-was_active.false, eq-eqb _ _ c.if-was_quiescent.true, c.if-quiet-2.true) c.wait.ensures

pub returns-else-quiet : goal.returns-else-quiet
unfolding phase_after
returns-else-quiet c =
    rw (eq-eqb _ _ c.if-was_active.true, c.if-quiet.false) (phase-same c.args.w.now c.requires.0)

pub returns-else-quiet-2 : goal.returns-else-quiet-2
unfolding phase_after
returns-else-quiet-2 c =
    rw (ne_eqb _ _ c.if-was_active.false, eq-eqb _ _ c.if-was_quiescent.true, c.if-quiet-2.false)
    (activity-same quiescent 0 c.args.w.now c.requires.0 c.if-was_quiescent.true)

pub returns-else-was_quiescent : goal.returns-else-was_quiescent
unfolding phase_after
returns-else-was_quiescent c =
    rw (ne_eqb _ _ c.if-was_active.false, ne_eqb _ _ c.if-was_quiescent.false) (phase-same c.args.w.now c.requires.0)
