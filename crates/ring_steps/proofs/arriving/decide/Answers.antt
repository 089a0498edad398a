-- `decide`: the first rule that holds.
use borrow.Author.Tests.{eq-eqb, le-ltb, lt-ltb, ne_eqb}
use mathlib.Core.Path.{sym, ◌∙◌}
use native.Mathlib.Omega.{arith}
use Rattle.ring.proofs.Facts.{facts}
use Rattle.ring_words.specs.Words.{state_of}
use Rattle.ring_steps.proofs.Decisions.{bytes-decide, drawn-decides, slots-decide, spared-decide}
use Rattle.ring_steps.proofs.arriving.decide.Goals as goal

pub overflow_add-bytes_full : goal.overflow_add-bytes_full
unfolding state_of
overflow_add-bytes_full c = let f = facts _ c.requires.w_len.1 in omega (arith, f.bytes_fit, f.buffer-high, c.requires.size_le_largest)

pub spares-spared-requires-clause-k_bound : goal.spares-spared-requires-clause-k_bound
unfolding state_of
spares-spared-requires-clause-k_bound c = let f = facts _ c.requires.w_len.1 in (f.prob-high, f.old-high)

pub draw-requires : goal.draw-requires
unfolding state_of
draw-requires c = let f = facts _ c.requires.w_len.1 in (c.requires.w_len.0, f.prob-high, f.accumulated-high)

pub returns-then-bytes_full-clause-value : goal.returns-then-bytes_full-clause-value
returns-then-bytes_full-clause-value c = (bytes-decide c.args.w.now c.requires.w_len.0 c.args.size c.args.ecn c.args.u (lt-ltb _ _ c.if-bytes_full.true)).0

pub returns-then-bytes_full-clause-w_after : goal.returns-then-bytes_full-clause-w_after
returns-then-bytes_full-clause-w_after c = (bytes-decide c.args.w.now c.requires.w_len.0 c.args.size c.args.ecn c.args.u (lt-ltb _ _ c.if-bytes_full.true)).1

pub returns-then-slots_full-clause-value : goal.returns-then-slots_full-clause-value
returns-then-slots_full-clause-value c = (slots-decide c.args.w.now c.requires.w_len.0 c.args.size c.args.ecn c.args.u (le-ltb _ _ c.if-bytes_full.false) (eq-eqb _ _ c.if-slots_full.true)).0

pub returns-then-slots_full-clause-w_after : goal.returns-then-slots_full-clause-w_after
returns-then-slots_full-clause-w_after c = (slots-decide c.args.w.now c.requires.w_len.0 c.args.size c.args.ecn c.args.u (le-ltb _ _ c.if-bytes_full.false) (eq-eqb _ _ c.if-slots_full.true)).1

pub returns-then-spared-clause-value : goal.returns-then-spared-clause-value
returns-then-spared-clause-value c = (spared-decide c.args.w.now c.requires.w_len.0 c.args.size c.args.ecn c.args.u (le-ltb _ _ c.if-bytes_full.false) (ne_eqb _ _ c.if-slots_full.false) (facts _ c.requires.w_len.1)
    (sym c.spares-spared.ensures ∙ c.if-spared.true)).0

pub returns-then-spared-clause-w_after : goal.returns-then-spared-clause-w_after
returns-then-spared-clause-w_after c = (spared-decide c.args.w.now c.requires.w_len.0 c.args.size c.args.ecn c.args.u (le-ltb _ _ c.if-bytes_full.false) (ne_eqb _ _ c.if-slots_full.false) (facts _ c.requires.w_len.1)
    (sym c.spares-spared.ensures ∙ c.if-spared.true)).1

pub returns-clause-value : goal.returns-clause-value
returns-clause-value c = (drawn-decides c.args.w.now c.requires.w_len.0 c.args.size c.args.ecn c.args.u (le-ltb _ _ c.if-bytes_full.false) (ne_eqb _ _ c.if-slots_full.false) (facts _ c.requires.w_len.1)
    (sym c.spares-spared.ensures ∙ c.if-spared.false) _ _ c.draw.ensures.value c.draw.ensures.w_after).0

pub returns-clause-w_after : goal.returns-clause-w_after
returns-clause-w_after c = (drawn-decides c.args.w.now c.requires.w_len.0 c.args.size c.args.ecn c.args.u (le-ltb _ _ c.if-bytes_full.false) (ne_eqb _ _ c.if-slots_full.false) (facts _ c.requires.w_len.1)
    (sym c.spares-spared.ensures ∙ c.if-spared.false) _ _ c.draw.ensures.value c.draw.ensures.w_after).1
