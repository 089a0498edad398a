-- `Session::answer`: by the session's stage.
use mathlib.Core.Path.{refl}
use Rattle.script.proofs.Stages.{at_ended, at_first, at-running, first-handles, first-sizes, nothing_written}
use Rattle.script.proofs.Session.answer.Goals as goal

pub returns-in-First : goal.returns-in-First
returns-in-First c =
    let a = c.args in
    rw (at_first a.self.now a.handles.now a.sizes.now a.command c.in-First.is)
    (record { said = c.first_line.ensures _ _; handles = first-handles _ _ _ _; sizes = first-sizes _ _ _ _ })

pub returns-in-Running : goal.returns-in-Running
returns-in-Running c =
    let a = c.args in
    rw (at-running a.self.now a.handles.now a.sizes.now a.command c.in-Running.is) c.later_line.ensures

pub returns-in-Ended : goal.returns-in-Ended
returns-in-Ended c =
    let a = c.args in
    rw (at_ended a.self.now a.handles.now a.sizes.now a.command c.in-Ended.is)
    (record { said = record { session = refl; text = nothing_written _ _ }; handles = refl; sizes = refl })
