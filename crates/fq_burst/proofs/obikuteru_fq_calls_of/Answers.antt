-- `obikuteru_fq_calls_of`: where the lengths fit, all calls, on a record that is well formed or is not.
use mathlib.Core.Path.{◌≡◌, sym, ◌∙◌}
use mathlib.Core.Bool.{true}
use borrow.Author.Tests.{leb-true}
use Rattle.pie.specs.Constants.{most_verdicts}
use Rattle.fq_state.specs.WellFormed.{well_formed}
use Rattle.fq_state.proofs.Facts.{common-fits, passes}
use Rattle.fq_words.proofs.Words.{length-flows}
use Rattle.fq_words.specs.Words.{common_of, lent}
use Rattle.fq_burst.proofs.obikuteru_fq_calls_of.Goals as goal

pub has_room-room-requires : goal.has_room-room-requires
unfolding common_of
has_room-room-requires c =
    let s = lent c.args.common.now c.args.order.now c.args.deficits.now c.args.flows.now in
    let formed : well_formed s ≡ true = sym c.fits-formed.ensures.value ∙ c.if-not-formed.false in
    rw c.counts_at.ensures (common-fits s.common (passes s formed).common).total-high

pub answer_each-requires-2-clause-ready : goal.answer_each-requires-2-clause-ready
unfolding common_of
answer_each-requires-2-clause-ready c =
    let s = lent c.args.common.now c.args.order.now c.args.deficits.now c.args.flows.now in (
      record {
        flows_long = length-flows 64 c.args.flows.now;
        order-long = c.told-order;
        deficits-long = c.told-deficits;
        formed = sym c.fits-formed.ensures.value ∙ c.if-not-formed.false;
      },
      c.fits-formed.ensures.counts_after c.if-not-formed.false,
      λ h. rw c.counts_at.ensures at (leb-true _ most_verdicts (sym c.has_room-room.ensures ∙ h)),
    )
