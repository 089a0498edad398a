-- `list`: a flow in neither list enters; any other keeps its place and deficit.
use mathlib.Core.Path.{◌≡◌, sym, ◌∙◌}
use mathlib.Core.Bool.{true, false}
use Rattle.schedule.specs.Entering.{is_listed}
use Rattle.schedule.specs.Ring.{schedule_of, two_lists}
use Rattle.fq_steps.proofs.receiving.list.Goals as goal

pub returns-then-count-gt0 : goal.returns-then-count-gt0
returns-then-count-gt0 c = rw (c.requires.flow_value c.if-count-gt0.true)

pub returns-then-listed : goal.returns-then-listed
returns-then-listed c =
    let yes : is_listed (two_lists (schedule_of c.args.lists.now c.args.order.now c.args.deficits.now)) c.args.flow ≡ true = sym c.is_listed-listed.ensures ∙ c.if-listed.true in rw yes

pub returns : goal.returns
returns c =
    let none : is_listed (two_lists (schedule_of c.args.lists.now c.args.order.now c.args.deficits.now)) c.args.flow ≡ false = sym c.is_listed-listed.ensures ∙ c.if-listed.false in
    rw none c.enter.ensures
