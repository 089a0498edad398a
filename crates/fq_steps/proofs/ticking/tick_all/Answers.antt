-- `tick_all`: before turn i the first i flows are ticked, and the others are as they were.
use mathlib.Core.Path.{◌≡◌, sym, ap, ◌∙◌}
use mathlib.Core.List.{List}
use Prim.Native.Nat.{ℕ, ◌+◌, ◌<◌}
use native.Mathlib.Omega.{arith}
use lib.ListN.{length, set}
use Rattle.fq_state.specs.Flow.{empty_flow}
use Rattle.fq_state.specs.State.{flow_at}
use Rattle.fq_words.specs.Words.{flows_of}
use Rattle.fq_state.specs.declared.Flow.{Flow}
use Rattle.fq_rules.specs.Tick.{ticked_flow}
use Rattle.fq_words.proofs.Words.{length-flows}
use Rattle.fq_rules.proofs.EachFlow.{each_fits}
use Rattle.fq_steps.proofs.Mapped.{mapped, mapped_at, mapped-none, mapped_next, mapped-all}
use Rattle.fq_steps.proofs.ticking.tick_all.Goals as goal

-- one turn, over any flows
turn : (change : Flow → Flow) (before now after : List Flow) (i : ℕ) (f next : Flow) → i < length before →
    now ≡ mapped change i before → f ≡ flow_at now i → next ≡ change f → after ≡ set now i next → after ≡ mapped change (i + 1) before
turn change before now after i f next long en ef ex ea =
    let read : f ≡ flow_at before i = ef ∙ ap (λ l. flow_at l i) en ∙ mapped_at change (empty_flow 0) i before in
    rw (ea, ex, read, en) (mapped_next change (empty_flow 0) i before long)

pub loop-i-init : goal.loop-i-init
loop-i-init c = sym (mapped-none _ (flows_of c.args.flows.now))

pub tick_flow-next-requires : goal.tick_flow-next-requires
tick_flow-next-requires c =
    let at = c.loop-i in
    let fs = flows_of c.args.flows.now in
    let change = ticked_flow c.args.common.settings.target.0 in
    let read : c.flow_at-f.result ≡ flow_at fs at.i =
    c.flow_at-f.ensures ∙ ap (λ l. flow_at l at.i) at.invariant ∙ mapped_at change (empty_flow 0) at.i fs in
    let long : at.i < length fs = rw (length-flows 64 c.args.flows.now) (omega (arith, c.loop-i-test.true)) in
    (c.requires.0, rw read (each_fits c.args.common fs at.i c.requires.1 long))

pub loop-i-preserved : goal.loop-i-preserved
loop-i-preserved c =
    let at = c.loop-i in
    let w = c.args.flows.now in
    let long : at.i < length (flows_of w) = rw (length-flows 64 w) (omega (arith, c.loop-i-test.true)) in
    turn (ticked_flow c.args.common.settings.target.0) (flows_of w) (flows_of at.flows) _ at.i _ _ long
    at.invariant c.flow_at-f.ensures c.tick_flow-next.ensures c.set_flow.ensures

pub returns : goal.returns
returns c =
    let at = c.loop-i in
    let w = c.args.flows.now in
    at.invariant
    ∙ mapped-all (ticked_flow c.args.common.settings.target.0) at.i (flows_of w)
    (rw (length-flows 64 w) (omega (arith, c.loop-i-test.false)))
