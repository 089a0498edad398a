-- `departure_of`: refused as the check says, else served.
use mathlib.Core.Path.{refl, sym}
use Rattle.std.proofs.lemmas.Result.{err_from_is_err_and}
use Rattle.fq_words.specs.Words.{state_of}
use Rattle.fq_rules.proofs.DepartureReplies.{departure-refused}
use Rattle.fq_steps.proofs.calling.departure_of.Goals as goal

pub serve-requires-clause-clock_value : goal.serve-requires-clause-clock_value
serve-requires-clause-clock_value c =
    let s = state_of c.args.common.now c.args.lists.now c.args.order.now c.args.deficits.now c.args.flows.now in
    sym (c.in_ok-check_departure.ensures s refl c.requires.flows_value)

pub returns-in_err-check_departure-clause-fact : goal.returns-in_err-check_departure-clause-fact
returns-in_err-check_departure-clause-fact c =
    let s = state_of c.args.common.now c.args.lists.now c.args.order.now c.args.deficits.now c.args.flows.now in
    let p = err_from_is_err_and c.from_residual.result c.from_residual.ensures.1 in
    rw (p.1, p.2) (departure-refused s _ _ _ _ (c.in_err-check_departure.ensures s refl c.requires.flows_value))
