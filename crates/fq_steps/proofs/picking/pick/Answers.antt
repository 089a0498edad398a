-- `pick`: what the heads that are passed leave of the choosing goes on by moves, from copies of the lists and deficits.
use mathlib.Core.Path.{ap, refl, sym, ◌∙◌}
use Rattle.schedule.specs.Passing.{Found}
use Rattle.fq_state.specs.State.{flow_at}
use Rattle.fq_state.specs.declared.Flow.{Flow}
use Rattle.fq_rules.specs.Departure.{head_word_refused}
use Rattle.fq_words.specs.Words.{flows_of}
use Rattle.fq_steps.proofs.picking.pick.Goals as goal

pub wrong_word-wrong-requires : goal.wrong_word-wrong-requires
wrong_word-wrong-requires c = rw c.flow_at-f.ensures (c.requires.by_index _ c.in-Ok.ensures.flow_bound)

pub returns-then-wrong : goal.returns-then-wrong
returns-then-wrong c =
    let all = c.in-Ok.ensures.s_value in
    let same = c.flow_at-f.ensures ∙ ap (flow_at (flows_of c.args.flows.now)) (sym (ap (λ (k : Found). k.flow) all)) in (
      refl,
      ap (λ (f : Flow). head_word_refused c.args.slots f c.args.sizes.now) (sym same) ∙ sym c.wrong_word-wrong.ensures ∙ c.if-wrong.true,
      refl,
    )

pub returns-else-wrong : goal.returns-else-wrong
returns-else-wrong c =
    let all = c.in-Ok.ensures.s_value in
    let same = c.flow_at-f.ensures ∙ ap (flow_at (flows_of c.args.flows.now)) (sym (ap (λ (k : Found). k.flow) all)) in (
      sym (ap (λ (k : Found). k.flow) all),
      c.in-Ok.ensures.flow_bound,
      ap (λ (f : Flow). head_word_refused c.args.slots f c.args.sizes.now) (sym same) ∙ sym c.wrong_word-wrong.ensures ∙ c.if-wrong.false,
      sym (ap (λ (k : Found). k.schedule) all),
    )

pub wrong_word-wrong-requires-in-Err : goal.wrong_word-wrong-requires-in-Err
wrong_word-wrong-requires-in-Err c = rw c.flow_at-f-in-Err.ensures (c.requires.by_index _ c.choose-flow.ensures.flow_bound)

pub returns-then-wrong-2 : goal.returns-then-wrong-2
returns-then-wrong-2 c =
    let all = c.in-Err.ensures.s_value in
    let flow = c.choose-flow.ensures.fact.0 ∙ sym (ap (λ (k : Found). k.flow) all) in
    let same = c.flow_at-f-in-Err.ensures ∙ ap (flow_at (flows_of c.args.flows.now)) flow in (
      refl,
      ap (λ (f : Flow). head_word_refused c.args.slots f c.args.sizes.now) (sym same) ∙ sym c.wrong_word-wrong-in-Err.ensures ∙ c.if-wrong-2.true,
      refl,
    )

pub returns-else-wrong-2 : goal.returns-else-wrong-2
returns-else-wrong-2 c =
    let all = c.in-Err.ensures.s_value in
    let flow = c.choose-flow.ensures.fact.0 ∙ sym (ap (λ (k : Found). k.flow) all) in
    let same = c.flow_at-f-in-Err.ensures ∙ ap (flow_at (flows_of c.args.flows.now)) flow in (
      flow,
      c.choose-flow.ensures.flow_bound,
      ap (λ (f : Flow). head_word_refused c.args.slots f c.args.sizes.now) (sym same) ∙ sym c.wrong_word-wrong-in-Err.ensures ∙ c.if-wrong-2.false,
      c.choose-flow.ensures.fact.2 ∙ sym (ap (λ (k : Found). k.schedule) all),
    )
