-- `arrive`: the reply's number and words, the tables as the call left them, and the counts.
use mathlib.Core.Path.{◌≡◌, refl, ap, sym, ◌∙◌}
use mathlib.Core.Bool.{true}
use native.Mathlib.Omega.{arith}
use Rattle.fq_state.specs.State.{State}
use Rattle.fq_state.specs.WellFormed.{well_formed}
use Rattle.fq_words.specs.Words.{state_of}
use Rattle.fq_state.proofs.Facts.{common-fits, passes}
use Rattle.fq_rules.specs.Answer.{arrival_answer}
use Rattle.fq_words.proofs.Kept.{arrival-kept}
use Rattle.fq_words.proofs.Returned.{accepted, not-accepted}
use Rattle.fq_words.proofs.Words.{length-flows}
use Rattle.fq_steps.proofs.Noting.{arrival-low, arrival-noted}
use Rattle.fq_steps.proofs.Stays.{arrival-stays}
use Rattle.fq_steps.proofs.entering.arrive.Goals as goal

pub overflow_cast-values : goal.overflow_cast-values
overflow_cast-values c =
    let s = state_of c.decode-values.result c.decode_lists-lists.result c.args.order.now c.args.deficits.now c.args.flows.now in
    let formed : well_formed s ≡ true = rw (c.decode-values.ensures, c.decode_lists-lists.ensures) c.requires.flows_value in
    let k = common-fits c.decode-values.result (passes s formed).common in
    omega (arith, k.settings.salt-high)

pub arrival_of-answer-requires-clause-flows_value : goal.arrival_of-answer-requires-clause-flows_value
arrival_of-answer-requires-clause-flows_value c =
    let s = state_of c.decode-values.result c.decode_lists-lists.result c.args.order.now c.args.deficits.now c.args.flows.now in
    let formed : well_formed s ≡ true = rw (c.decode-values.ensures, c.decode_lists-lists.ensures) c.requires.flows_value in
    formed

pub arrival_of-answer-requires-clause-verdicts_bound : goal.arrival_of-answer-requires-clause-verdicts_bound
arrival_of-answer-requires-clause-verdicts_bound c =
    rw c.decode-values.ensures c.requires.common_bound

pub note-requires : goal.note-requires
note-requires c =
    let s = state_of c.decode-values.result c.decode_lists-lists.result c.args.order.now c.args.deficits.now c.args.flows.now in
    let formed : well_formed s ≡ true = rw (c.decode-values.ensures, c.decode_lists-lists.ensures) c.requires.flows_value in
    let a = c.args in
    let e = c.arrival_of-answer.ensures a.key.now c.flow_of-flow.ensures.0 in (
      c.flow_of-flow.ensures.1,
      rw (ap (λ (s : State). s.flows) e.1)
          (arrival-low s formed (length-flows 64 a.flows.now) a.handles.now a.sizes.now a.clock a.key.now
          a.size a.ecn a.u c.flow_of-flow.result c.flow_of-flow.ensures.0 c.flow_of-flow.ensures.1),
    )

pub write_arrived-requires-clause-settings_value : goal.write_arrived-requires-clause-settings_value
write_arrived-requires-clause-settings_value c =
    let s = state_of c.decode-values.result c.decode_lists-lists.result c.args.order.now c.args.deficits.now c.args.flows.now in
    let formed : well_formed s ≡ true = rw (c.decode-values.ensures, c.decode_lists-lists.ensures) c.requires.flows_value in
    let a = c.args in
    let e = c.arrival_of-answer.ensures a.key.now c.flow_of-flow.ensures.0 in
    let told = sym (ap arrival_answer c.in-Ok.is) ∙ e.0 in
    let t = arrival-stays s a.handles.now a.sizes.now a.clock a.key.now a.size a.ecn
    a.u _ _ e.1 told in
    let high = (common-fits c.decode-values.result (passes s formed).common).total-high in
    rw (← c.decode-values.ensures) (t.0, t.1, t.2, high)

pub write_arrived-requires-clause-first_value : goal.write_arrived-requires-clause-first_value
write_arrived-requires-clause-first_value c =
    let s = state_of c.decode-values.result c.decode_lists-lists.result c.args.order.now c.args.deficits.now c.args.flows.now in
    let formed : well_formed s ≡ true = rw (c.decode-values.ensures, c.decode_lists-lists.ensures) c.requires.flows_value in
    let a = c.args in
    let e = c.arrival_of-answer.ensures a.key.now c.flow_of-flow.ensures.0 in
    let told = sym (ap arrival_answer c.in-Ok.is) ∙ e.0 in
    let t = arrival-stays s a.handles.now a.sizes.now a.clock a.key.now a.size a.ecn
    a.u _ _ e.1 told in
    let high = (common-fits c.decode-values.result (passes s formed).common).total-high in
    rw (← c.decode_lists-lists.ensures) (t.3, t.4)

pub returns-in-Err-clause-fact : goal.returns-in-Err-clause-fact
returns-in-Err-clause-fact c =
    let s = state_of c.decode-values.result c.decode_lists-lists.result c.args.order.now c.args.deficits.now c.args.flows.now in
    let formed : well_formed s ≡ true = rw (c.decode-values.ensures, c.decode_lists-lists.ensures) c.requires.flows_value in
    let a = c.args in
    let e = c.arrival_of-answer.ensures a.key.now c.flow_of-flow.ensures.0 in
    let given' = sym e.0 ∙ ap arrival_answer c.in-Err.is in
    let same = arrival-kept _ _ _ _ _ _ _ _ _ given' in
    let g =
    not-accepted _ _ _ _ a.common.now a.order.now a.deficits.now a.flows.now _ _ _
    c.arrival_of-answer.array_long3 e.1 _ _ c.told-flows _ given' same c.refused.ensures in
    rw (← c.decode-values.ensures, ← c.decode_lists-lists.ensures)
    (g.code_is, g.common-is, g.order_is, g.flows-are, g.deficits-are, e.2, e.3)

pub returns-in-Err-clause-counts_after : goal.returns-in-Err-clause-counts_after
returns-in-Err-clause-counts_after c =
    let s = state_of c.decode-values.result c.decode_lists-lists.result c.args.order.now c.args.deficits.now c.args.flows.now in
    let formed : well_formed s ≡ true = rw (c.decode-values.ensures, c.decode_lists-lists.ensures) c.requires.flows_value in
    let a = c.args in
    let e = c.arrival_of-answer.ensures a.key.now c.flow_of-flow.ensures.0 in
    let counts =
    arrival-noted s formed (length-flows 64 a.flows.now) _ _ _ _ c.requires.counts_value c.note.ensures _ _ _ _ _ _ _
    c.flow_of-flow.ensures.0 c.flow_of-flow.ensures.1 (ap (λ (s : State). s.flows) e.1) in
    counts

pub returns-in-Ok-clause-fact : goal.returns-in-Ok-clause-fact
returns-in-Ok-clause-fact c =
    let s = state_of c.decode-values.result c.decode_lists-lists.result c.args.order.now c.args.deficits.now c.args.flows.now in
    let formed : well_formed s ≡ true = rw (c.decode-values.ensures, c.decode_lists-lists.ensures) c.requires.flows_value in
    let a = c.args in
    let e = c.arrival_of-answer.ensures a.key.now c.flow_of-flow.ensures.0 in
    let told = sym e.0 ∙ ap arrival_answer c.in-Ok.is in
    let g =
    accepted _ _ _ _ a.common.now a.order.now a.deficits.now a.flows.now _ _ _
    c.arrival_of-answer.array_long3 e.1 _ _ told refl c.numbered.ensures c.write_arrived.ensures in
    rw (← c.decode-values.ensures, ← c.decode_lists-lists.ensures)
    (g.code_is, g.common-is, g.order_is, g.flows-are, g.deficits-are, e.2, e.3)

pub returns-in-Ok-clause-counts_after : goal.returns-in-Ok-clause-counts_after
returns-in-Ok-clause-counts_after c =
    let s = state_of c.decode-values.result c.decode_lists-lists.result c.args.order.now c.args.deficits.now c.args.flows.now in
    let formed : well_formed s ≡ true = rw (c.decode-values.ensures, c.decode_lists-lists.ensures) c.requires.flows_value in
    let a = c.args in
    let e = c.arrival_of-answer.ensures a.key.now c.flow_of-flow.ensures.0 in
    let counts =
    arrival-noted s formed (length-flows 64 a.flows.now) _ _ _ _ c.requires.counts_value c.note.ensures _ _ _ _ _ _ _
    c.flow_of-flow.ensures.0 c.flow_of-flow.ensures.1 (ap (λ (s : State). s.flows) e.1) in
    counts
