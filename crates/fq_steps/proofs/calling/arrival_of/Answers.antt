-- `arrival_of`: refused as the check says, else received.
use mathlib.Core.Path.{refl, sym}
use Rattle.std.proofs.lemmas.Result.{err_from_is_err_and}
use Rattle.fq_words.specs.Words.{state_of}
use Rattle.fq_state.proofs.Facts.{passes}
use Rattle.fq_rules.proofs.ArrivalReplies.{arrival-refused}
use Rattle.fq_steps.proofs.calling.arrival_of.Goals as goal

pub check_arrival-requires-clause-common_value : goal.check_arrival-requires-clause-common_value
check_arrival-requires-clause-common_value c =
    (passes (state_of c.args.common.now c.args.lists.now c.args.order.now c.args.deficits.now c.args.flows.now) c.requires.flows_value).common

pub receive-requires-clause-size_value : goal.receive-requires-clause-size_value
receive-requires-clause-size_value c =
    let s = state_of c.args.common.now c.args.lists.now c.args.order.now c.args.deficits.now c.args.flows.now in
    sym (c.in_ok-check_arrival.ensures s refl c.requires.flows_value)

pub returns-in_err-check_arrival : goal.returns-in_err-check_arrival
returns-in_err-check_arrival c =
    let s = state_of c.args.common.now c.args.lists.now c.args.order.now c.args.deficits.now c.args.flows.now in
    let p = err_from_is_err_and c.from_residual.result c.from_residual.ensures.1 in
    rw (p.1, p.2) (λ key of-key. arrival-refused s _ _ _ key _ _ _ _ _ (c.in_err-check_arrival.ensures s refl c.requires.flows_value))
