-- `wait`: rule 11's two ways.
use Rattle.modem_steps.proofs.ticking.wait.Goals as goal
use mathlib.Core.Path.{refl, sym, ◌∙◌}
use Rattle.docsis_pie.specs.Constants.{quiescent}
use Rattle.modem_steps.proofs.Words.{activity-same}

pub returns-then-over : goal.returns-then-over
returns-then-over c = rw (sym c.before.timed_out-over.ensures ∙ c.if-over.true) refl

pub returns : goal.returns
returns c =
    let a = c.before.before in
    rw (sym c.before.timed_out-over.ensures ∙ c.if-over.false) (activity-same quiescent a.args.reset a.args.w.now a.requires.0 a.requires.1)
