-- `decided`: the first rule that holds.
use borrow.Author.Tests.{le-ltb, lt-ltb}
use mathlib.Core.Path.{sym, ◌∙◌}
use native.Mathlib.Omega.{arith}
use Rattle.pair_words.specs.Words.{state_of}
use Rattle.pair_steps.proofs.Decisions.{bytes-rule, drawn-rule, facing-bounds, found-full, numbers, slots-rule, spared-rule}
use Rattle.pair_steps.proofs.deciding.decided.Goals as goal

pub overflow_add-own : goal.overflow_add-own
unfolding state_of
overflow_add-own c =
    let f = (numbers c.args.which c.args.shared.now c.args.own.now c.args.other.now c.requires.formed.formed).own in
    omega (arith, f.bytes_fit, f.buffer-high, c.requires.size_le_largest)

pub returns-then-own-size-clause-verdict_value : goal.returns-then-own-size-clause-verdict_value
returns-then-own-size-clause-verdict_value c =
    (bytes-rule c.args.which c.args.shared.now c.args.own.now c.args.other.now c.args.size c.args.ecn c.args.u _ _
    c.undrawn.ensures.0 c.undrawn.ensures.1 (lt-ltb _ _ c.if-own-size.true)).0

pub returns-then-own-size-clause-accumulated_value : goal.returns-then-own-size-clause-accumulated_value
returns-then-own-size-clause-accumulated_value c =
    (bytes-rule c.args.which c.args.shared.now c.args.own.now c.args.other.now c.args.size c.args.ecn c.args.u _ _
    c.undrawn.ensures.0 c.undrawn.ensures.1 (lt-ltb _ _ c.if-own-size.true)).1

pub full-requires-clause-passengers_bound : goal.full-requires-clause-passengers_bound
full-requires-clause-passengers_bound c =
    let k = numbers c.args.which c.args.shared.now c.args.own.now c.args.other.now c.requires.formed.formed in
    facing-bounds c.args.which c.args.shared.now _ c.shared_facing.ensures k.reserves-high k.slots-high

pub full-requires-clause-own_bound : goal.full-requires-clause-own_bound
full-requires-clause-own_bound c =
    let k = numbers c.args.which c.args.shared.now c.args.own.now c.args.other.now c.requires.formed.formed in
    omega (arith, k.own-count, k.other-count)

pub returns-then-full-clause-verdict_value : goal.returns-then-full-clause-verdict_value
returns-then-full-clause-verdict_value c =
    (slots-rule c.args.which c.args.shared.now c.args.own.now c.args.other.now c.args.size c.args.ecn c.args.u
    (le-ltb _ _ c.if-own-size.false) _ _
    c.undrawn-then-full.ensures.0 c.undrawn-then-full.ensures.1 (sym (found-full c.args.which c.args.shared.now _ _ _ _ c.shared_facing.ensures c.full.ensures) ∙ c.if-full.true)).0

pub returns-then-full-clause-accumulated_value : goal.returns-then-full-clause-accumulated_value
returns-then-full-clause-accumulated_value c =
    (slots-rule c.args.which c.args.shared.now c.args.own.now c.args.other.now c.args.size c.args.ecn c.args.u
    (le-ltb _ _ c.if-own-size.false) _ _
    c.undrawn-then-full.ensures.0 c.undrawn-then-full.ensures.1 (sym (found-full c.args.which c.args.shared.now _ _ _ _ c.shared_facing.ensures c.full.ensures) ∙ c.if-full.true)).1

pub spares-requires-clause-k_bound : goal.spares-requires-clause-k_bound
unfolding state_of
spares-requires-clause-k_bound c =
    let f = (numbers c.args.which c.args.shared.now c.args.own.now c.args.other.now c.requires.formed.formed).own in
    (f.prob-high, f.old-high)

pub returns-then-spares-clause-verdict_value : goal.returns-then-spares-clause-verdict_value
returns-then-spares-clause-verdict_value c =
    (spared-rule c.args.which c.args.shared.now c.args.own.now c.args.other.now c.args.size c.args.ecn c.args.u
    (le-ltb _ _ c.if-own-size.false) (sym (found-full c.args.which c.args.shared.now _ _ _ _ c.shared_facing.ensures c.full.ensures) ∙ c.if-full.false) _ _
    c.undrawn-then-spares.ensures.0 c.undrawn-then-spares.ensures.1 (sym c.spares.ensures ∙ c.if-spares.true)).0

pub returns-then-spares-clause-accumulated_value : goal.returns-then-spares-clause-accumulated_value
returns-then-spares-clause-accumulated_value c =
    (spared-rule c.args.which c.args.shared.now c.args.own.now c.args.other.now c.args.size c.args.ecn c.args.u
    (le-ltb _ _ c.if-own-size.false) (sym (found-full c.args.which c.args.shared.now _ _ _ _ c.shared_facing.ensures c.full.ensures) ∙ c.if-full.false) _ _
    c.undrawn-then-spares.ensures.0 c.undrawn-then-spares.ensures.1 (sym c.spares.ensures ∙ c.if-spares.true)).1

pub draw-requires : goal.draw-requires
unfolding state_of
draw-requires c =
    let f = (numbers c.args.which c.args.shared.now c.args.own.now c.args.other.now c.requires.formed.formed).own in
    rw c.pie_at.ensures (f.prob-high, f.accumulated-high)

pub returns-clause-verdict_value : goal.returns-clause-verdict_value
returns-clause-verdict_value c =
    let read = c.pie_at.ensures in
    (drawn-rule c.args.which c.args.shared.now c.args.own.now c.args.other.now c.args.size c.args.ecn c.args.u
    (le-ltb _ _ c.if-own-size.false) (sym (found-full c.args.which c.args.shared.now _ _ _ _ c.shared_facing.ensures c.full.ensures) ∙ c.if-full.false) _ _
    (rw read at c.draw.ensures.verdict_value) (rw read at c.draw.ensures.accumulated_value)
    (sym c.spares.ensures ∙ c.if-spares.false)).0

pub returns-clause-accumulated_value : goal.returns-clause-accumulated_value
returns-clause-accumulated_value c =
    let read = c.pie_at.ensures in
    (drawn-rule c.args.which c.args.shared.now c.args.own.now c.args.other.now c.args.size c.args.ecn c.args.u
    (le-ltb _ _ c.if-own-size.false) (sym (found-full c.args.which c.args.shared.now _ _ _ _ c.shared_facing.ensures c.full.ensures) ∙ c.if-full.false) _ _
    (rw read at c.draw.ensures.verdict_value) (rw read at c.draw.ensures.accumulated_value)
    (sym c.spares.ensures ∙ c.if-spares.false)).1
