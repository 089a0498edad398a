-- `State::well_formed`: too many counts are refused first.
use mathlib.Core.Path.{sym, ◌∙◌}
use borrow.Author.Tests.{leb-false}
use Rattle.ring.proofs.Tests.{uncounted}
use Rattle.ring.proofs.State.well_formed.Goals as goal

pub returns-else-counts_fit : goal.returns-else-counts_fit
returns-else-counts_fit c = rw (c.if-counts_fit.false, uncounted c.args.self (leb-false _ _ (sym c.counts_fit.ensures ∙ c.if-counts_fit.false)))
