-- `tick`: the tests in their order, then the words in which the new state differs.
use mathlib.Core.Path.{refl}
use Prim.Native.Nat.{◌≤◌}
use native.Mathlib.Omega.{arith}
use borrow.Author.Tests.{le-ltb, lt-ltb}
use Rattle.pie.specs.Constants.{longest}
use Rattle.docsis_pie.proofs.Ranges.{delay-le}
use Rattle.modem_flow.proofs.Facts.{facts}
use Rattle.modem_words.specs.Words.{state_of}
use Rattle.modem_words.proofs.Changed.{kept}
use Rattle.modem_steps.proofs.Replies.{tick-early, tick-late, tick-made}
use Rattle.modem_steps.proofs.Words.{tick-before, ticked-words}
use Rattle.modem_steps.proofs.ticking.tick.Goals as goal

pub returns-then-wrong_clock : goal.returns-then-wrong_clock
unfolding state_of
returns-then-wrong_clock c =
    λ row fits. rw (tick-late _ row _ c.requires.1 fits _ c.if-wrong_clock.true) (c.refused.ensures, kept _ _ (refl, c.requires.0))

pub overflow_add-too_soon : goal.overflow_add-too_soon
unfolding state_of
overflow_add-too_soon c =
    let f = facts (state_of c.args.w.now) c.requires.1 in
    omega (arith, f.last-high, f.clock-high)

pub returns-then-too_soon : goal.returns-then-too_soon
unfolding state_of
returns-then-too_soon c =
    λ row fits.
    rw (tick-early _ row _ c.requires.1 fits _ c.if-wrong_clock.false (lt-ltb _ _ c.if-too_soon.true)) (c.refused-then-too_soon.ensures, kept _ _ (refl, c.requires.0))

pub delay-now-requires : goal.delay-now-requires
unfolding state_of
delay-now-requires c =
    let f = facts (state_of c.args.w.now) c.requires.1 in
    (omega (arith, f.bytes_fit, f.buffer-high), f.peak-low, f.sustained-low)

pub next_prob-prob-requires : goal.next_prob-prob-requires
unfolding state_of
next_prob-prob-requires c =
    let f = facts (state_of c.args.w.now) c.requires.1 in
    let le : c.delay-now.result.0 ≤ longest = rw c.delay-now.ensures (delay-le _ _ _ _) in
    (f.prob-high, le, f.old-high, f.target-high)

pub quiet-requires : goal.quiet-requires
unfolding state_of
quiet-requires c =
    let f = facts (state_of c.args.w.now) c.requires.1 in
    let le : c.delay-now.result.0 ≤ longest = rw c.delay-now.ensures (delay-le _ _ _ _) in
    (le, f.old-high)

pub follow-requires : goal.follow-requires
unfolding state_of
follow-requires c =
    let f = facts (state_of c.args.w.now) c.requires.1 in
    let b = tick-before c.args.clock c.next_prob-prob.result.0 c.delay-now.result.0 c.next_allowance-allowance.result.0 c.args.w.now c.requires.0 in
    (b.0, rw b.1 f.reset-high)

pub returns : goal.returns
unfolding state_of
returns c =
    let words = ticked-words c.args.clock c.args.credits c.args.w.now c.requires.0 in
    λ row fits.
    rw (tick-made _ row _ c.requires.1 fits _ c.if-wrong_clock.false (le-ltb _ _ c.if-too_soon.false))
    (refl, rw (c.follow.ensures, c.quiet.ensures, c.next_allowance-allowance.ensures, c.next_prob-prob.ensures, c.delay-now.ensures) words)
