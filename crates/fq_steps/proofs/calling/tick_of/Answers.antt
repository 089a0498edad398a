-- `tick_of`: refused as the check says, else every flow is ticked.
use mathlib.Core.Path.{refl}
use Rattle.std.proofs.lemmas.Result.{err_from_is_err_and}
use Rattle.fq_words.specs.Words.{state_of}
use Rattle.fq_state.proofs.Facts.{passes}
use Rattle.fq_rules.proofs.Replies.{tick-refused, tick-taken}
use Rattle.fq_steps.proofs.calling.tick_of.Goals as goal

pub check_tick-requires : goal.check_tick-requires
check_tick-requires c = (passes (state_of c.args.common.now c.args.lists c.args.order.now c.args.deficits.now c.args.flows.now) c.requires).common

pub tick_all-requires : goal.tick_all-requires
tick_all-requires c =
    let p = passes (state_of c.args.common.now c.args.lists c.args.order.now c.args.deficits.now c.args.flows.now) c.requires in (p.common, p.flows)

pub returns-in_err-check_tick : goal.returns-in_err-check_tick
returns-in_err-check_tick c =
    let s = state_of c.args.common.now c.args.lists c.args.order.now c.args.deficits.now c.args.flows.now in
    let p = err_from_is_err_and c.from_residual.result c.from_residual.ensures.1 in
    rw (p.1, p.2) (tick-refused s _ _ (c.in_err-check_tick.ensures s refl c.requires))

pub returns : goal.returns
returns c =
    let s = state_of c.args.common.now c.args.lists c.args.order.now c.args.deficits.now c.args.flows.now in
    tick-taken s _ _ (c.in_ok-check_tick.ensures s refl c.requires) c.tick_all.ensures
