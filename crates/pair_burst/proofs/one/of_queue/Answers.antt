-- `of_queue`: what each step gives is what its call asks for.
use borrow.Author.Tests.{eq-eqb, le-ltb, lt-ltb, ne_eqb}
use mathlib.Core.Path.{◌∙◌}
use lib.Dec.{eqb}
use Rattle.pair_burst.proofs.Refused.{departure-kind}
use Rattle.pair_burst.proofs.Steps.{arrival-step, departure-step, tick-step}
use Rattle.pair_burst.proofs.one.of_queue.Goals as goal

pub returns-then-departs-clause-value : goal.returns-then-departs-clause-value
returns-then-departs-clause-value c =
    let a = c.args in
    let kind = departure-kind a.kind (eq-eqb _ _ c.if-departs.true) in
    let e = c.departing.ensures in
    (departure-step (eqb a.queue 1) a.shared.now a.own.now a.other.now a.handles.now a.sizes.now a.calls.now a.at a.kind
    c.clock_of-clock.result c.clock_of-clock.ensures kind.0 (eq-eqb _ _ c.if-departs.true) _ _ _ _ e.0 e.1 e.2 e.3).0

pub returns-then-departs-clause-sizes_after : goal.returns-then-departs-clause-sizes_after
returns-then-departs-clause-sizes_after c =
    let a = c.args in
    let kind = departure-kind a.kind (eq-eqb _ _ c.if-departs.true) in
    let e = c.departing.ensures in
    (departure-step (eqb a.queue 1) a.shared.now a.own.now a.other.now a.handles.now a.sizes.now a.calls.now a.at a.kind
    c.clock_of-clock.result c.clock_of-clock.ensures kind.0 (eq-eqb _ _ c.if-departs.true) _ _ _ _ e.0 e.1 e.2 e.3).1

pub returns-then-arrives-clause-value : goal.returns-then-arrives-clause-value
returns-then-arrives-clause-value c =
    let a = c.args in
    let e = c.arrive-code.ensures in
    (arrival-step (eqb a.queue 1) a.shared.now a.own.now a.other.now a.handles.now a.sizes.now a.calls.now a.at a.kind
    c.clock_of-clock.result c.clock_of-clock.ensures (lt-ltb _ _ c.if-arrives.true) _ _ _ _ _ (c.wide.ensures ∙ e.0) e.1 e.2 e.3 e.4).0

pub returns-then-arrives-clause-sizes_after : goal.returns-then-arrives-clause-sizes_after
returns-then-arrives-clause-sizes_after c =
    let a = c.args in
    let e = c.arrive-code.ensures in
    (arrival-step (eqb a.queue 1) a.shared.now a.own.now a.other.now a.handles.now a.sizes.now a.calls.now a.at a.kind
    c.clock_of-clock.result c.clock_of-clock.ensures (lt-ltb _ _ c.if-arrives.true) _ _ _ _ _ (c.wide.ensures ∙ e.0) e.1 e.2 e.3 e.4).1

pub returns-clause-value : goal.returns-clause-value
returns-clause-value c =
    let a = c.args in
    let e = c.tick.ensures in
    (tick-step (eqb a.queue 1) a.shared.now a.own.now a.other.now a.handles.now a.sizes.now a.calls.now a.at a.kind
    c.clock_of-clock.result c.clock_of-clock.ensures (le-ltb _ _ c.if-arrives.false) (ne_eqb _ _ c.if-departs.false) _ _
    (c.wide-2.ensures ∙ e.0) e.1).0

pub returns-clause-sizes_after : goal.returns-clause-sizes_after
returns-clause-sizes_after c =
    let a = c.args in
    let e = c.tick.ensures in
    (tick-step (eqb a.queue 1) a.shared.now a.own.now a.other.now a.handles.now a.sizes.now a.calls.now a.at a.kind
    c.clock_of-clock.result c.clock_of-clock.ensures (le-ltb _ _ c.if-arrives.false) (ne_eqb _ _ c.if-departs.false) _ _
    (c.wide-2.ensures ∙ e.0) e.1).1
