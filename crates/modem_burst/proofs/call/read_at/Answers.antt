-- `read_at`: by the kind.
use Rattle.modem_burst.proofs.call.read_at.Goals as goal
use mathlib.Core.Path.{refl}
use borrow.Author.Tests.{ne_eqb}
use Rattle.modem_burst.specs.Calls.{call_at}

pub returns-then-departs : goal.returns-then-departs
unfolding call_at
returns-then-departs c = rw (c.clock_of-clock.ensures, c.if-departs.true) refl

pub returns-then-arrives : goal.returns-then-arrives
unfolding call_at
returns-then-arrives c = rw (c.clock_of-clock.ensures, c.if-arrives.true) refl

pub returns-then-ticks : goal.returns-then-ticks
unfolding call_at
returns-then-ticks c = rw (c.clock_of-clock.ensures, c.if-ticks.true) refl

pub returns : goal.returns
unfolding call_at
returns c = rw (ne_eqb _ _ c.if-arrives.false, ne_eqb _ _ c.if-departs.false, ne_eqb _ _ c.if-ticks.false) refl
