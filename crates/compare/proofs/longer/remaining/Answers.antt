-- `remaining`: a part of the longer log, or an empty one.
use mathlib.Core.Path.{sym, ◌∙◌}
use Rattle.compare.proofs.Fits.{first_fits, neither, part-of, second_fits}
use Rattle.compare.proofs.longer.remaining.Goals as goal

pub last-requires : goal.last-requires
last-requires c = let a = c.args in second_fits a.first.now a.second.now (sym c.in-FirstEnds.ensures)

pub last-requires-in-SecondEnds : goal.last-requires-in-SecondEnds
last-requires-in-SecondEnds c = let a = c.args in first_fits a.first.now a.second.now (sym c.in-SecondEnds.ensures)

pub returns-in-FirstEnds : goal.returns-in-FirstEnds
returns-in-FirstEnds c = let a = c.args in c.last.ensures ∙ part-of a.first a.second c.in-FirstEnds.ensures

pub returns-in-SecondEnds : goal.returns-in-SecondEnds
returns-in-SecondEnds c = let a = c.args in c.last-in-SecondEnds.ensures ∙ part-of a.first a.second c.in-SecondEnds.ensures

pub returns-in_default : goal.returns-in_default
returns-in_default c =
    let a = c.args in neither a.first a.second c.compare.result c.in_default.not-FirstEnds c.in_default.not-SecondEnds c.compare.ensures
