-- `ready`: what each test that passes says.
use Rattle.ring_burst.proofs.ready.Goals as goal
use mathlib.Core.Path.{sym, ◌∙◌}
use borrow.Author.Tests.{leb-true}
use Rattle.pie.specs.Constants.{most_verdicts}
use Rattle.ring.proofs.Facts.{facts}
use Rattle.ring_words.specs.Words.{state_of}

pub has_room-requires : goal.has_room-requires
unfolding state_of
has_room-requires c =
    rw c.counts_at.ensures (facts _ (sym c.obikuteru_well_formed.ensures ∙ c.if-not-obikuteru_well_formed.false)).total-high

pub returns : goal.returns
unfolding state_of
returns c = λ e. (
  c.told-w,
  sym c.obikuteru_well_formed.ensures ∙ c.if-not-obikuteru_well_formed.false,
  c.if-handles-w.false,
  c.if-sizes-w.false,
  rw c.counts_at.ensures at (leb-true _ most_verdicts (sym c.has_room.ensures ∙ e)),
)
