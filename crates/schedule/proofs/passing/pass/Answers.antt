-- `pass`: each head that is passed leaves the choice as it was, with one look fewer.
use borrow.Author.Tests.{eq-eqb, ne_eqb}
use mathlib.Core.Path.{◌≡◌, ap, sym, ◌∙◌}
use Prim.Native.Nat.{◌+◌, ◌-◌}
use native.Mathlib.Omega.{arith}
use Rattle.schedule.specs.Choosing.{most_looks}
use Rattle.schedule.specs.Passing.{found_by, found_in}
use Rattle.schedule.specs.Ring.{schedule_of, two_lists}
use Rattle.schedule.proofs.Chosen.{chosen-all}
use Rattle.schedule.proofs.Facts.{facts}
use Rattle.schedule.proofs.HeadPassed.{head_passed, head-served, none-listed, still-fit}
use Rattle.schedule.proofs.Moves.{above_zero}
use Rattle.schedule.proofs.passing.pass.Goals as goal

pub loop-passed-init : goal.loop-passed-init
loop-passed-init c =
    let s = schedule_of c.args.lists.now c.args.order.now c.args.deficits.now in
    (c.requires, ap (λ k. found_by k s) (sym (chosen-all c.args.counts.now (two_lists s))))

pub returns-then-none-clause-s_value : goal.returns-then-none-clause-s_value
returns-then-none-clause-s_value c =
    let l = c.loop-passed in
    let s = schedule_of l.lists c.args.order.now c.args.deficits.now in
    sym l.invariant.1 ∙ none-listed c.args.counts.now s (most_looks - l.passed) (omega arith) (facts l.lists l.invariant.0.0) (eq-eqb _ _ c.if-none.true)

pub head-flow-requires : goal.head-flow-requires
head-flow-requires c = (c.loop-passed.invariant.0, above_zero c.loop-passed.lists.listed c.if-none.false)

pub returns-then-negative-clause-s_value : goal.returns-then-negative-clause-s_value
returns-then-negative-clause-s_value c = sym c.loop-passed.invariant.1

pub returns-then-not-empty-clause-s_value : goal.returns-then-not-empty-clause-s_value
returns-then-not-empty-clause-s_value c =
    let l = c.loop-passed in
    let s = schedule_of l.lists c.args.order.now c.args.deficits.now in
    sym l.invariant.1
    ∙ head-served c.args.counts.now s (most_looks - l.passed) (omega arith) (facts l.lists l.invariant.0.0) c.head-flow.result
    c.head-flow.ensures.0 (ne_eqb _ _ c.if-none.false)
    (sym c.is_negative-negative.ensures ∙ c.if-negative.false)
    (ne_eqb _ _ c.if-not-empty.true)

pub without_head-requires : goal.without_head-requires
without_head-requires c = (c.loop-passed.invariant.0.0, above_zero c.loop-passed.lists.listed c.if-none.false)

pub loop-passed-preserved : goal.loop-passed-preserved
loop-passed-preserved c =
    let l = c.loop-passed in
    let s = schedule_of l.lists c.args.order.now c.args.deficits.now in
    let some = above_zero l.lists.listed c.if-none.false in
    let k = still-fit c.args.order.now l.lists l.invariant.0.0 some l.invariant.0.1 in
    let on = head_passed c.args.counts.now s (most_looks - l.passed) (omega arith) (facts l.lists l.invariant.0.0) c.head-flow.result
    c.head-flow.ensures.0 (ne_eqb _ _ c.if-none.false)
    (sym c.is_negative-negative.ensures ∙ c.if-negative.false)
    (eq-eqb _ _ c.if-not-empty.false) in
    let fewer : most_looks - (l.passed + 1) ≡ most_looks - l.passed - 1 = omega arith in
    rw (c.without_head.ensures, fewer) (k, sym on ∙ l.invariant.1)

pub returns-clause-s_value : goal.returns-clause-s_value
returns-clause-s_value c =
    let l = c.loop-passed in
    let s = schedule_of l.lists c.args.order.now c.args.deficits.now in
    let none : most_looks - l.passed ≡ 0 = omega arith in
    sym l.invariant.1 ∙ ap (λ n. found_in n c.args.counts.now s) none
