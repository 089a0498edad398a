-- `tick_flow`: the update, within the ranges of a flow that fits.
use borrow.Author.Tests.{eqb-true}
use mathlib.Core.Bool.{◌&&◌}
use lib.Dec.{eqb}
use Rattle.laws.proofs.Tests.{and_left, and_right}
use Rattle.fq_rules.proofs.IdleTick.{ticked-idle}
use native.Mathlib.Omega.{arith}
use Rattle.fq_rules.specs.Tick.{ticked_flow}
use Rattle.fq_state.proofs.Facts.{common-fits, flow-fits}
use Rattle.fq_rules.proofs.ticking.tick_flow.Goals as goal

pub returns-then-idle : goal.returns-then-idle
returns-then-idle c =
    let f = c.args.f in
    let k = common-fits c.args.common c.requires.0 in
    let p = eqb f.prob 0 in
    let o = eqb f.old 0 in
    let b = eqb f.bytes 0 in
    let both = and_left (p && o) b c.if-idle.true in
    ticked-idle _ f (omega (arith, k.settings.target-low))
    (eqb-true _ _ (and_left p o both))
    (eqb-true _ _ (and_right p o both))
    (eqb-true _ _ (and_right (p && o) b c.if-idle.true))

pub update-next-requires-clause-prob_le_whole : goal.update-next-requires-clause-prob_le_whole
update-next-requires-clause-prob_le_whole c =
    let k = common-fits c.args.common c.requires.0 in
    let f = flow-fits c.args.common c.args.f c.requires.1 in
    rw c.pie-before.ensures (f.prob-high, f.old-high, f.average-high)

pub update-next-requires-clause-target_bound : goal.update-next-requires-clause-target_bound
update-next-requires-clause-target_bound c =
    let k = common-fits c.args.common c.requires.0 in
    let f = flow-fits c.args.common c.args.f c.requires.1 in
    (k.settings.target-high, omega (arith, f.bytes_fit, k.settings.buffer-high))

pub returns : goal.returns
unfolding ticked_flow
returns c =
    rw (c.with.ensures, c.ends.ensures, c.backlog.ensures, c.update-next.ensures, c.pie-before.ensures)
