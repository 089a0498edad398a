-- `tick`: the tests in their order, then the words in which the new state differs.
use Rattle.ring_steps.proofs.ticking.tick.Goals as goal
use borrow.Author.Tests.{eq-eqb, le-ltb, lt-ltb, ne_eqb}
use mathlib.Core.Path.{refl, ap, ◌∙◌}
use mathlib.Core.List.{List}
use Prim.Native.Nat.{ℕ}
use native.Mathlib.Omega.{arith}
use Rattle.pie.specs.declared.Pie.{Pie}
use Rattle.pie_words.specs.Words.{updated_words}
use Rattle.ring.proofs.Activation.{plain-active}
use Rattle.ring.proofs.Facts.{facts}
use Rattle.ring_words.specs.Words.{state_of}
use Rattle.ring_steps.proofs.Replies.{tick-early, tick-late, tick-made}
use Rattle.ring_steps.proofs.Words.{clocked_words, ticked-words}

pub returns-then-wrong_clock : goal.returns-then-wrong_clock
unfolding state_of
returns-then-wrong_clock c = rw (tick-late _ _ c.requires.1 c.if-wrong_clock.true, c.refused.ensures) (refl, refl)

pub overflow_add-too_soon : goal.overflow_add-too_soon
unfolding state_of
overflow_add-too_soon c = let f = facts _ c.requires.1 in omega arith

pub update-requires-clause-k_in_bounds : goal.update-requires-clause-k_in_bounds
unfolding state_of
update-requires-clause-k_in_bounds c =
    let a = c.before.before.before.before.before.before.before.before in
    let f = facts _ a.requires.1 in omega (arith, a.requires.0)

pub update-requires-clause-k_bound : goal.update-requires-clause-k_bound
unfolding state_of
update-requires-clause-k_bound c =
    let a = c.before.before.before.before.before.before.before.before in
    let f = facts _ a.requires.1 in (f.prob-high, f.old-high, f.average-high, omega (arith, f.bytes_fit, f.buffer-high), f.target-high)

pub returns-then-too_soon : goal.returns-then-too_soon
unfolding state_of
returns-then-too_soon c = rw (tick-early _ _ c.requires.1 c.if-wrong_clock.false (lt-ltb _ _ c.if-too_soon.true), c.refused-then-too_soon.ensures) (refl, refl)

pub tick_calm-requires : goal.tick_calm-requires
unfolding state_of
tick_calm-requires c = let q = c.requires in (q.0, q.1, eq-eqb _ _ c.if-calm.true)

pub returns-then-calm : goal.returns-then-calm
unfolding state_of
returns-then-calm c = rw (tick-made _ _ c.requires.1 c.if-wrong_clock.false (le-ltb _ _ c.if-too_soon.false)) (refl, c.tick_calm.ensures)

pub returns : goal.returns
unfolding state_of
returns c =
    let a = c in
    let w = a.args.w.now in
    let clock = a.args.clock in
    let plain = ne_eqb _ _ c.if-calm.false in
    let active = plain-active (state_of w) (facts _ a.requires.1) plain in
    let words =
    ap (λ (l : List ℕ). clocked_words l clock) c.update.ensures.w_after
    ∙ ap (λ (p : Pie). clocked_words (updated_words w 5 p) clock) c.update.ensures.value
    ∙ ticked-words clock w a.requires.0 active plain in
    rw (tick-made _ _ a.requires.1 c.if-wrong_clock.false (le-ltb _ _ c.if-too_soon.false)) (refl, words)
