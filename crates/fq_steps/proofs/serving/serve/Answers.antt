-- `serve`: a flow is chosen, and its head is handed out and its slot freed, or refused by 9.
use mathlib.Core.Path.{◌≡◌, ap, refl, ◌∙◌}
use mathlib.Core.Bool.{false}
use Rattle.std.proofs.lemmas.Result.{err_from_is_err_and}
use mathlib.Core.List.{List}
use native.Mathlib.Omega.{arith}
use lib.ListN.{length}
use Rattle.refusals.specs.Numbers.{number_of}
use Rattle.refusals.specs.declared.Refusal.{Refusal}
use Rattle.schedule.specs.Ring.{Schedule}
use Rattle.fq_state.specs.State.{State, counts_of, flow_at}
use Rattle.fq_state.specs.declared.Common.{Common}
use Rattle.fq_rules.specs.Answer.{refused}
use Rattle.fq_words.specs.Words.{flows_of, state_of}
use Rattle.fq_state.specs.declared.Flow.{Flow}
use Rattle.fq_state.proofs.Facts.{passes}
use Rattle.fq_words.proofs.Words.{length-flows}
use Rattle.fq_rules.specs.Departure.{head_word_refused}
use Rattle.fq_rules.proofs.DepartureReplies.{departure-lost, departure-taken}
use Rattle.fq_rules.proofs.EachFlow.{lists-fit}
use Rattle.fq_rules.proofs.WhenAccepted.{departure-accepted, head-known, known}
use Rattle.fq_steps.proofs.serving.serve.Goals as goal

abbrev the_state : Common → Schedule → List Flow → State
the_state common schedule flows = record { common = common; schedule = schedule; flows = flows }

pub pick-requires-clause-lists_value : goal.pick-requires-clause-lists_value
pick-requires-clause-lists_value c =
    let s = state_of c.args.common.now c.args.lists.now c.args.order.now c.args.deficits.now c.args.flows.now in
    let a = departure-accepted s (length c.args.handles.now) (length c.args.sizes.now) c.args.clock.0 c.requires.clock_value in
    let l = lists-fit (counts_of s.flows) s.schedule (passes s a.formed).lists in (l.places, l.numbers)

pub pick-requires-clause-by_index : goal.pick-requires-clause-by_index
pick-requires-clause-by_index c =
    let s = state_of c.args.common.now c.args.lists.now c.args.order.now c.args.deficits.now c.args.flows.now in
    let a = departure-accepted s (length c.args.handles.now) (length c.args.sizes.now) c.args.clock.0 c.requires.clock_value in
    λ i low.
    let k = known s i (flow_at s.flows i) a.formed (rw (length-flows 64 c.args.flows.now) low) refl in (
      omega (arith, k.own.head-high, a.sizes),
      omega (arith, k.own.head-high, k.common.settings.slots-high),
      omega (arith, k.own.count-high, k.common.settings.slots-high),
      k.own.bytes_high,
    )

pub returns-in_err-flow-clause-fact : goal.returns-in_err-flow-clause-fact
returns-in_err-flow-clause-fact c =
    let s = state_of c.args.common.now c.args.lists.now c.args.order.now c.args.deficits.now c.args.flows.now in
    let k = c.in_err-flow.ensures in
    let p = err_from_is_err_and c.from_residual.result c.from_residual.ensures.1 in
    let lost = departure-lost s _ _ _ c.requires.clock_value _ _ _ c.requires.counts_value refl refl k.1 in
    rw (p.1, p.2) (
      ap (λ (r : Refusal). refused (number_of r)) k.0 ∙ lost.0,
      ap (λ (x : Schedule). the_state s.common x s.flows) k.2 ∙ lost.1,
      lost.2,
    )

pub offset_bounds-handles-f : goal.offset_bounds-handles-f
offset_bounds-handles-f c =
    let s = state_of c.args.common.now c.args.lists.now c.args.order.now c.args.deficits.now c.args.flows.now in
    let a = departure-accepted s (length c.args.handles.now) (length c.args.sizes.now) c.args.clock.0 c.requires.clock_value in
    let k = known s _ c.flow_at-f.result a.formed
    (rw (length-flows 64 c.args.flows.now) c.in_ok-flow.ensures.1) c.flow_at-f.ensures in
    omega (arith, k.own.head-high, k.common.settings.slots-high)

pub bounds-handles-f : goal.bounds-handles-f
bounds-handles-f c =
    let s = state_of c.args.common.now c.args.lists.now c.args.order.now c.args.deficits.now c.args.flows.now in
    let a = departure-accepted s (length c.args.handles.now) (length c.args.sizes.now) c.args.clock.0 c.requires.clock_value in
    let k = known s _ c.flow_at-f.result a.formed
    (rw (length-flows 64 c.args.flows.now) c.in_ok-flow.ensures.1) c.flow_at-f.ensures in
    omega (arith, k.own.head-high, a.handles)

pub size_at-size-requires : goal.size_at-size-requires
size_at-size-requires c =
    let s = state_of c.args.common.now c.args.lists.now c.args.order.now c.args.deficits.now c.args.flows.now in
    let a = departure-accepted s (length c.args.handles.now) (length c.args.sizes.now) c.args.clock.0 c.requires.clock_value in
    let k = known s _ c.flow_at-f.result a.formed
    (rw (length-flows 64 c.args.flows.now) c.in_ok-flow.ensures.1) c.flow_at-f.ensures in
    (omega (arith, k.own.head-high, a.sizes), omega (arith, k.own.head-high, k.common.settings.slots-high))

pub departed-next-requires-clause-f_value : goal.departed-next-requires-clause-f_value
departed-next-requires-clause-f_value c =
    let s = state_of c.args.common.now c.args.lists.now c.args.order.now c.args.deficits.now c.args.flows.now in
    let a = departure-accepted s (length c.args.handles.now) (length c.args.sizes.now) c.args.clock.0 c.requires.clock_value in
    let k = known s _ c.flow_at-f.result a.formed
    (rw (length-flows 64 c.args.flows.now) c.in_ok-flow.ensures.1) c.flow_at-f.ensures in
    (k.passes, omega (arith, k.own.head-high, a.sizes), omega (arith, k.own.head-high, k.common.settings.slots-high))

pub departed-next-requires-clause-clock_le_clock : goal.departed-next-requires-clause-clock_le_clock
departed-next-requires-clause-clock_le_clock c =
    let s = state_of c.args.common.now c.args.lists.now c.args.order.now c.args.deficits.now c.args.flows.now in
    let a = departure-accepted s (length c.args.handles.now) (length c.args.sizes.now) c.args.clock.0 c.requires.clock_value in
    let k = known s _ c.flow_at-f.result a.formed
    (rw (length-flows 64 c.args.flows.now) c.in_ok-flow.ensures.1) c.flow_at-f.ensures in
    let passes-9 : head_word_refused c.args.common.now.settings.slots c.flow_at-f.result c.args.sizes.now ≡ false =
    ap (λ (f : Flow). head_word_refused c.args.common.now.settings.slots f c.args.sizes.now)
    (c.flow_at-f.ensures ∙ ap (flow_at (flows_of c.args.flows.now)) c.in_ok-flow.ensures.0)
    ∙ c.in_ok-flow.ensures.2 in
    let h = (head-known c.args.common.now.settings.slots c.flow_at-f.result c.args.sizes.now passes-9).size in
    (a.clock-low, omega (arith, h.low, h.fits, k.own.bytes_high), rw c.size_at-size.ensures h.fits, rw c.size_at-size.ensures h.high)

pub write_freed-requires : goal.write_freed-requires
write_freed-requires c =
    let s = state_of c.args.common.now c.args.lists.now c.args.order.now c.args.deficits.now c.args.flows.now in
    let a = departure-accepted s (length c.args.handles.now) (length c.args.sizes.now) c.args.clock.0 c.requires.clock_value in
    let k = known s _ c.flow_at-f.result a.formed
    (rw (length-flows 64 c.args.flows.now) c.in_ok-flow.ensures.1) c.flow_at-f.ensures in (
      omega (arith, k.own.head-high, a.sizes),
      omega (arith, k.own.head-high, k.common.settings.slots-high),
      omega (arith, k.common.freed-high, k.common.settings.slots-high),
    )

pub taken-requires : goal.taken-requires
taken-requires c =
    let s = state_of c.args.common.now c.args.lists.now c.args.order.now c.args.deficits.now c.args.flows.now in
    let a = departure-accepted s (length c.args.handles.now) (length c.args.sizes.now) c.args.clock.0 c.requires.clock_value in
    let k = known s _ c.flow_at-f.result a.formed
    (rw (length-flows 64 c.args.flows.now) c.in_ok-flow.ensures.1) c.flow_at-f.ensures in
    let passes-9 : head_word_refused c.args.common.now.settings.slots c.flow_at-f.result c.args.sizes.now ≡ false =
    ap (λ (f : Flow). head_word_refused c.args.common.now.settings.slots f c.args.sizes.now)
    (c.flow_at-f.ensures ∙ ap (flow_at (flows_of c.args.flows.now)) c.in_ok-flow.ensures.0)
    ∙ c.in_ok-flow.ensures.2 in
    let h = (head-known c.args.common.now.settings.slots c.flow_at-f.result c.args.sizes.now passes-9).size in (
      a.some,
      rw c.size_at-size.ensures (omega (arith, h.fits, k.bytes_high)),
      omega (arith, k.common.used-is, k.common.used_high, k.common.settings.slots-high),
    )

pub returns-clause-fact : goal.returns-clause-fact
returns-clause-fact c =
    let s = state_of c.args.common.now c.args.lists.now c.args.order.now c.args.deficits.now c.args.flows.now in
    let passes-9 : head_word_refused c.args.common.now.settings.slots c.flow_at-f.result c.args.sizes.now ≡ false =
    ap (λ (f : Flow). head_word_refused c.args.common.now.settings.slots f c.args.sizes.now)
    (c.flow_at-f.ensures ∙ ap (flow_at (flows_of c.args.flows.now)) c.in_ok-flow.ensures.0)
    ∙ c.in_ok-flow.ensures.2 in
    departure-taken s _ _ _ c.requires.clock_value _ _ _
    c.requires.counts_value
    c.in_ok-flow.ensures.0
    c.flow_at-f.ensures
    _ _ _ _ _ _ _ _ _ _
    passes-9
    c.in_ok-flow.ensures.3
    refl
    c.size_at-size.ensures
    c.taken.ensures
    c.charge.ensures
    c.departed-next.ensures
    c.set_flow.ensures
    c.write_freed.ensures
