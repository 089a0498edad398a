use mathlib.Core.Path.{sym, ◌∙◌}
use Rattle.schedule.specs.Ring.{schedule_of}
use Rattle.schedule.proofs.Tallied.{each-flow, entries, no-flows, no-lists, tally-tests}
use Rattle.schedule.proofs.testing.fits.Goals as goal

pub returns-then-not-fit : goal.returns-then-not-fit
returns-then-not-fit c =
    let a = c.args in sym (no-lists a.counts.now (schedule_of a.lists a.order.now a.deficits.now) c.if-not-fit.true)

pub returns-in-None : goal.returns-in-None
returns-in-None c = let a = c.args in sym (no-flows a.counts.now (schedule_of a.lists a.order.now a.deficits.now) c.if-not-fit.false c.in-None.ensures)

pub returns-in-Some : goal.returns-in-Some
returns-in-Some c =
    let a = c.args in
    let s = schedule_of a.lists a.order.now a.deficits.now in
    let t = c.in-Some.ensures in
    c.every_flow_fits.ensures ∙ tally-tests a.counts.now a.deficits.now _ (entries a.counts.now s) t.1 ∙ sym (each-flow a.counts.now s c.if-not-fit.false t.0)
