-- `decide`: rules 1 and 2, then the flow's drop decision.
use borrow.Author.Tests.{lt-ltb, le-ltb, eq-eqb, ne_eqb}
use mathlib.Core.Path.{refl}
use Rattle.pie.specs.DropDecision.{accumulated_after}
use Rattle.fq_state.proofs.Facts.{flow-fits}
use Rattle.fq_rules.specs.Arrival.{verdict_of}
use Rattle.fq_rules.proofs.deciding.decide.Goals as goal

pub returns-then-bytes_full-clause-verdict_value : goal.returns-then-bytes_full-clause-verdict_value
unfolding verdict_of
returns-then-bytes_full-clause-verdict_value c = rw (lt-ltb _ _ c.if-bytes_full.true) refl

pub returns-then-bytes_full-clause-accumulated_value : goal.returns-then-bytes_full-clause-accumulated_value
unfolding accumulated_after
returns-then-bytes_full-clause-accumulated_value c = rw c.pie-pie.ensures refl

pub returns-then-slots_full-clause-verdict_value : goal.returns-then-slots_full-clause-verdict_value
unfolding verdict_of
returns-then-slots_full-clause-verdict_value c = rw (le-ltb _ _ c.if-bytes_full.false, eq-eqb _ _ c.if-slots_full.true) refl

pub returns-then-slots_full-clause-accumulated_value : goal.returns-then-slots_full-clause-accumulated_value
unfolding accumulated_after
returns-then-slots_full-clause-accumulated_value c = rw c.pie-pie.ensures refl

pub decide-requires : goal.decide-requires
decide-requires c =
    let f = flow-fits c.args.common c.args.f c.requires.common_value.1 in
    rw c.pie-pie.ensures (f.prob-high, f.old-high, f.accumulated-high)

pub returns-clause-verdict_value : goal.returns-clause-verdict_value
unfolding verdict_of
returns-clause-verdict_value c =
    rw (le-ltb _ _ c.if-bytes_full.false, ne_eqb _ _ c.if-slots_full.false) (rw c.pie-pie.ensures at c.decide.ensures.verdict_value)

pub returns-clause-accumulated_value : goal.returns-clause-accumulated_value
returns-clause-accumulated_value c = rw c.pie-pie.ensures at c.decide.ensures.accumulated_value
