-- `depart`: the reply's number, words and packet, the sizes as the call left them, and the counts.
use mathlib.Core.Path.{◌≡◌, refl, ap, sym, ◌∙◌}
use mathlib.Core.Bool.{true}
use Rattle.fq_state.specs.State.{State, counts_of}
use Rattle.fq_state.specs.WellFormed.{well_formed}
use Rattle.fq_words.specs.Codes.{packet_of}
use Rattle.fq_words.specs.Words.{state_of}
use Rattle.fq_rules.specs.Answer.{departure_answer, flow_in}
use Rattle.fq_words.proofs.Kept.{departure-kept}
use Rattle.fq_words.proofs.Returned.{accepted, not-accepted}
use Rattle.fq_words.proofs.Words.{length-flows}
use Rattle.fq_steps.proofs.Noting.{departure-low, departure-noted}
use Rattle.fq_steps.proofs.Stays.{departure-stays}
use Rattle.fq_steps.proofs.entering.depart.Goals as goal

pub departure_of-served-requires-clause-flows_value : goal.departure_of-served-requires-clause-flows_value
departure_of-served-requires-clause-flows_value c = rw (c.decode-values.ensures, c.decode_lists-lists.ensures) c.requires.flows_value

pub note-requires : goal.note-requires
note-requires c =
    let s = state_of c.decode-values.result c.decode_lists-lists.result c.args.order.now c.args.deficits.now c.args.flows.now in
    let formed : well_formed s ≡ true = rw (c.decode-values.ensures, c.decode_lists-lists.ensures) c.requires.flows_value in
    let a = c.args in
    let e = c.departure_of-served.ensures.fact in
    let flow = ap flow_in (sym (ap departure_answer c.in-Ok.is) ∙ e.0) in
    let low = c.in-Ok.ensures.flow_bound in (
      low,
      rw (ap (λ (s : State). s.flows) e.1)
          (departure-low s formed (length-flows 64 a.flows.now) a.handles.now a.sizes.now a.clock _ flow low),
    )

pub write_left-requires : goal.write_left-requires
write_left-requires c =
    let s = state_of c.decode-values.result c.decode_lists-lists.result c.args.order.now c.args.deficits.now c.args.flows.now in
    rw (← c.decode-values.ensures) (departure-stays s _ _ _ _ c.departure_of-served.ensures.fact.1)

pub returns-in-Err-clause-fact : goal.returns-in-Err-clause-fact
returns-in-Err-clause-fact c =
    let a = c.args in
    let e = c.departure_of-served.ensures.fact in
    let given = sym e.0 ∙ ap departure_answer c.in-Err.is in
    let same = departure-kept _ _ _ _ _ given in
    let g =
    not-accepted _ _ _ _ a.common.now a.order.now a.deficits.now a.flows.now _ _ _
    c.departure_of-served.array_long3 e.1 _ _ c.told-flows _ given same c.refused.ensures in
    rw (← c.decode-values.ensures, ← c.decode_lists-lists.ensures)
    (g.code_is, g.common-is, g.order_is, g.flows-are, g.deficits-are, e.2, sym (ap packet_of given))

pub returns-in-Err-clause-counts_after : goal.returns-in-Err-clause-counts_after
returns-in-Err-clause-counts_after c =
    let e = c.departure_of-served.ensures.fact in
    let given = sym e.0 ∙ ap departure_answer c.in-Err.is in
    c.requires.counts_value ∙ sym (ap (λ (s : State). counts_of s.flows) (e.1 ∙ departure-kept _ _ _ _ _ given))

pub returns-in-Ok-clause-fact : goal.returns-in-Ok-clause-fact
returns-in-Ok-clause-fact c =
    let a = c.args in
    let e = c.departure_of-served.ensures.fact in
    let told = sym e.0 ∙ ap departure_answer c.in-Ok.is in
    let g =
    accepted _ _ _ _ a.common.now a.order.now a.deficits.now a.flows.now _ _ _
    c.departure_of-served.array_long3 e.1 _ _ told refl refl c.write_left.ensures in
    rw (← c.decode-values.ensures, ← c.decode_lists-lists.ensures)
    (g.code_is, g.common-is, g.order_is, g.flows-are, g.deficits-are, e.2, sym (ap packet_of told))

pub returns-in-Ok-clause-counts_after : goal.returns-in-Ok-clause-counts_after
returns-in-Ok-clause-counts_after c =
    let s = state_of c.decode-values.result c.decode_lists-lists.result c.args.order.now c.args.deficits.now c.args.flows.now in
    let formed : well_formed s ≡ true = rw (c.decode-values.ensures, c.decode_lists-lists.ensures) c.requires.flows_value in
    let e = c.departure_of-served.ensures.fact in
    let flow = ap flow_in (sym (ap departure_answer c.in-Ok.is) ∙ e.0) in
    departure-noted s formed (length-flows 64 c.args.flows.now) _ _ _ _ c.requires.counts_value c.note.ensures _ _ _ flow
    c.in-Ok.ensures.flow_bound (ap (λ (s : State). s.flows) e.1)
