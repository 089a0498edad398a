-- `ready`: the tests of the records and of the tables, and room by what the counts leave.
use borrow.Author.Tests.{eqb-true, leb-true}
use mathlib.Core.Path.{◌≡◌, sym, ◌∙◌}
use mathlib.Core.Bool.{false, true}
use lib.Dec.{eqb}
use Rattle.pie.specs.Constants.{most_verdicts}
use Rattle.pair_rules.proofs.Facts.{facts}
use Rattle.laws.proofs.Tests.{and_left, and_right}
use Rattle.pair_words.specs.Words.{pair_of, shared_of, state_of}
use Rattle.pair_burst.proofs.ready.Goals as goal

pub has_room-first-requires : goal.has_room-first-requires
unfolding state_of
has_room-first-requires c =
    rw c.counts_at.ensures (facts (pair_of false c.args.shared.now c.args.intercom.now c.args.passengers.now)
    (sym c.records_fit-formed.ensures.value ∙ c.if-not-formed.false)).intercom.total-high

pub has_room-requires : goal.has_room-requires
unfolding state_of
has_room-requires c =
    rw c.counts_at-2.ensures (facts (pair_of false c.args.shared.now c.args.intercom.now c.args.passengers.now)
    (sym c.records_fit-formed.ensures.value ∙ c.if-not-formed.false)).passengers.total-high

pub returns : goal.returns
unfolding shared_of state_of
returns c e =
    let a = c.args in
    let slots = (shared_of a.shared.now).slots in
    let h = eqb a.handles slots in
    let z = eqb a.sizes slots in
    let long = c.records_fit-formed.ensures.shared_len c.if-not-formed.false in
    let held : c.has_room-first.result ≡ true = cc in (
      long.0,
      long.1,
      long.2,
      sym c.records_fit-formed.ensures.value ∙ c.if-not-formed.false,
      eqb-true _ _ (and_left h z c.if-not-fit.false),
      eqb-true _ _ (and_right h z c.if-not-fit.false),
      leb-true _ most_verdicts (rw c.counts_at.ensures at (sym c.has_room-first.ensures ∙ held)),
      leb-true _ most_verdicts (rw c.counts_at-2.ensures at (sym c.has_room.ensures ∙ e)),
    )
