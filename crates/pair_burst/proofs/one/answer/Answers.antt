-- `answer`: a call on either queue, by the place of its words.
use borrow.Author.Tests.{eq-eqb, le-ltb, ne_eqb}
use mathlib.Core.Path.{◌∙◌}
use mathlib.Core.List.{[]}
use Prim.Native.Nat.{ℕ, ◌+◌, ◌/◌, ◌%◌, ◌≤◌, ◌<◌}
use native.Mathlib.Omega.{arith}
use lib.ListN.{get_or}
use Rattle.pair_burst.proofs.Both.{both-step, ready-fits, same-both}
use Rattle.pair_burst.proofs.Steps.{unknown-step}
use Rattle.pair_burst.proofs.one.answer.Goals as goal

queue-low : (asks : ℕ) → asks ≤ 7 → asks / 4 < 2
queue-low asks h = omega arith

pub returns-then-unknown-clause-value : goal.returns-then-unknown-clause-value
returns-then-unknown-clause-value c =
    let a = c.args in
    let asks = get_or a.calls.now (a.at + 5) 0 in
    let both = a.both.now in
    (unknown-step a.shared.now (get_or both 0 []) (get_or both 1 []) a.handles.now a.sizes.now
    a.calls.now a.at (le-ltb asks 4 (omega arith)) (le-ltb asks 8 (omega arith))).0

pub returns-then-unknown-clause-sizes_after : goal.returns-then-unknown-clause-sizes_after
returns-then-unknown-clause-sizes_after c =
    let a = c.args in
    let asks = get_or a.calls.now (a.at + 5) 0 in
    let both = a.both.now in
    (unknown-step a.shared.now (get_or both 0 []) (get_or both 1 []) a.handles.now a.sizes.now
    a.calls.now a.at (le-ltb asks 4 (omega arith)) (le-ltb asks 8 (omega arith))).1

pub refusal-code-requires-clause-queue_bound : goal.refusal-code-requires-clause-queue_bound
refusal-code-requires-clause-queue_bound c = (queue-low _ c.if-unknown.false, c.requires.both_len.0, c.requires.both_len.1)

pub refusal-code-requires-clause-fitting : goal.refusal-code-requires-clause-fitting
refusal-code-requires-clause-fitting c t =
    let a = c.args in
    let asks = get_or a.calls.now (a.at + 5) 0 in
    ready-fits (asks / 4) (asks % 4) a.shared.now a.both.now a.handles.now a.sizes.now (queue-low asks c.if-unknown.false)
    (c.requires.ready t)

pub returns-then-refused-clause-value : goal.returns-then-refused-clause-value
returns-then-refused-clause-value c =
    let a = c.args in
    let asks = get_or a.calls.now (a.at + 5) 0 in
    let r = c.refusal-code.ensures.stays (ne_eqb _ _ c.if-refused.true) in
    let e = both-step a.shared.now a.handles.now a.sizes.now a.calls.now a.at _ _ _ _ _
    a.both.now c.requires.both_len.0 (le-ltb 7 asks c.if-unknown.false) r in
    c.wide.ensures ∙ e.0

pub returns-then-refused-clause-sizes_after : goal.returns-then-refused-clause-sizes_after
returns-then-refused-clause-sizes_after c =
    let a = c.args in
    let asks = get_or a.calls.now (a.at + 5) 0 in
    let r = c.refusal-code.ensures.stays (ne_eqb _ _ c.if-refused.true) in
    let e = both-step a.shared.now a.handles.now a.sizes.now a.calls.now a.at _ _ _ _ _
    a.both.now c.requires.both_len.0 (le-ltb 7 asks c.if-unknown.false) r in
    same-both a.shared.now a.handles.now a.sizes.now (asks / 4) a.both.now c.requires.both_len.0 (queue-low asks c.if-unknown.false) ∙ e.1

pub of_queue-requires-clause-queue_bound : goal.of_queue-requires-clause-queue_bound
of_queue-requires-clause-queue_bound c = (queue-low _ c.if-unknown.false, c.requires.both_len.1)

pub of_queue-requires-clause-fitting : goal.of_queue-requires-clause-fitting
of_queue-requires-clause-fitting c = c.refusal-code.ensures.fitting_2 (eq-eqb _ _ c.if-refused.false)

pub returns-clause-value : goal.returns-clause-value
returns-clause-value c =
    let a = c.args in
    let asks = get_or a.calls.now (a.at + 5) 0 in
    (both-step a.shared.now a.handles.now a.sizes.now a.calls.now a.at _ _ _ _ _
    a.both.now c.requires.both_len.0 (le-ltb 7 asks c.if-unknown.false) (c.of_queue.ensures.value, c.of_queue.ensures.sizes_after)).0

pub returns-clause-sizes_after : goal.returns-clause-sizes_after
returns-clause-sizes_after c =
    let a = c.args in
    let asks = get_or a.calls.now (a.at + 5) 0 in
    (both-step a.shared.now a.handles.now a.sizes.now a.calls.now a.at _ _ _ _ _
    a.both.now c.requires.both_len.0 (le-ltb 7 asks c.if-unknown.false) (c.of_queue.ensures.value, c.of_queue.ensures.sizes_after)).1
