use mathlib.Core.Path.{refl}
use native.Mathlib.Omega.{arith}
use Rattle.schedule.specs.Entering.{entered}
use Rattle.schedule.specs.Ring.{entered_in}
use Rattle.schedule.proofs.Facts.{facts}
use Rattle.schedule.proofs.entering.enter.Goals as goal

pub overflow_add-end : goal.overflow_add-end
overflow_add-end c = let f = facts c.args.lists.now c.requires.0 in omega (arith, f.first-lt, f.listed_le)

pub overflow_add-lists : goal.overflow_add-lists
overflow_add-lists c = let f = facts c.args.lists.now c.requires.0 in omega (arith, f.listed_le)

pub returns : goal.returns
unfolding entered_in entered
returns c = refl
