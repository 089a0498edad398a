-- `update`: the reply's number and words; the counts stay.
use Rattle.std.specs.Prelude.{Result, ⊤}
use Rattle.refusals.specs.declared.Refusal.{Refusal}
use mathlib.Core.Path.{◌≡◌, refl, ap, sym, ◌∙◌}
use Rattle.fq_state.specs.State.{State, counts_of}
use Rattle.fq_rules.specs.Answer.{accepted_answer, ticked}
use Rattle.fq_words.specs.Written.{common_words}
use Rattle.fq_words.proofs.Kept.{tick-kept}
use Rattle.fq_words.proofs.Returned.{accepted, not-accepted}
use Rattle.fq_steps.proofs.Noting.{tick-counts}
use Rattle.fq_steps.proofs.Stays.{tick-stays}
use Rattle.fq_steps.proofs.entering.update.Goals as goal

told : {q r : Result ⊤ Refusal} → q ≡ r → accepted_answer q ticked ≡ accepted_answer r ticked
told e = ap (λ (x : Result ⊤ Refusal). accepted_answer x ticked) e

pub tick_of-answer-requires : goal.tick_of-answer-requires
tick_of-answer-requires c =
    rw (c.decode-values.ensures, c.decode_lists-lists.ensures) c.requires

pub write_ticked-requires : goal.write_ticked-requires
write_ticked-requires c =
    rw (← c.decode-values.ensures) (tick-stays _ _ _ c.tick_of-answer.ensures.1)

pub returns-in-Err-clause-fact : goal.returns-in-Err-clause-fact
returns-in-Err-clause-fact c =
    let a = c.args in
    let e = c.tick_of-answer.ensures in
    let given = sym e.0 ∙ told c.in-Err.is in
    let same = tick-kept _ _ _ given in
    let g =
    not-accepted _ _ _ _ a.common.now a.order.now a.deficits.now a.flows.now _ _ _
    c.tick_of-answer.array_long e.1 _ _ c.told-flows _ given same c.refused.ensures in
    rw (← c.decode-values.ensures, ← c.decode_lists-lists.ensures)
    (g.code_is, g.common-is, g.flows-are)

pub returns-in-Err-clause-flows_unchanged : goal.returns-in-Err-clause-flows_unchanged
returns-in-Err-clause-flows_unchanged c = ap (λ (s : State). counts_of s.flows) c.tick_of-answer.ensures.1 ∙ tick-counts _ _

pub returns-in-Ok-clause-fact : goal.returns-in-Ok-clause-fact
returns-in-Ok-clause-fact c =
    let a = c.args in
    let e = c.tick_of-answer.ensures in
    let is = sym e.0 ∙ told c.in-Ok.is in
    let g =
    accepted _ _ _ _ a.common.now a.order.now a.deficits.now a.flows.now _ _ _
    c.tick_of-answer.array_long e.1 _ _ is refl refl (c.write_ticked.ensures ∙ ap (common_words _) (sym c.decode_lists-lists.ensures)) in
    rw (← c.decode-values.ensures, ← c.decode_lists-lists.ensures)
    (g.code_is, g.common-is, g.flows-are)

pub returns-in-Ok-clause-flows_unchanged : goal.returns-in-Ok-clause-flows_unchanged
returns-in-Ok-clause-flows_unchanged c = ap (λ (s : State). counts_of s.flows) c.tick_of-answer.ensures.1 ∙ tick-counts _ _
