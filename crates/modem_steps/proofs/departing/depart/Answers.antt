-- `depart`: the tests in their order, then the words in which the new state differs.
use mathlib.Core.Path.{◌≡◌, refl, sym, ◌∙◌}
use mathlib.Core.Bool.{false}
use native.Mathlib.Omega.{arith}
use borrow.Author.Tests.{eq-eqb, ne_eqb}
use Rattle.refusals.specs.Tests.{head_refused}
use Rattle.refusals.proofs.Fitting.{HeadFits, head-fits}
use Rattle.modem_flow.specs.Departure.{head_of}
use Rattle.modem_flow.proofs.Facts.{facts}
use Rattle.modem_words.specs.Words.{state_of}
use Rattle.modem_words.proofs.Changed.{kept}
use Rattle.modem_steps.proofs.Replies.{departure-empty, departure-late, departure-made, departure-wrong}
use Rattle.modem_steps.proofs.Words.{departed-words}
use Rattle.modem_steps.proofs.departing.depart.Goals as goal

pub returns-then-wrong_clock : goal.returns-then-wrong_clock
unfolding state_of
returns-then-wrong_clock c =
    let q = c.requires in
    λ row fits. rw (departure-late _ row _ q.1 fits _ _ q.2 q.3 c.if-wrong_clock.true) (c.refused.ensures, kept _ _ (refl, q.0))

pub returns-then-empty : goal.returns-then-empty
unfolding state_of
returns-then-empty c =
    let q = c.requires in
    λ row fits.
    rw (departure-empty _ row _ q.1 fits _ _ q.2 q.3 c.if-wrong_clock.false (eq-eqb _ _ c.if-empty.true)) (c.refused-then-empty.ensures, kept _ _ (refl, q.0))

pub offset_bounds-sizes-at : goal.offset_bounds-sizes-at
unfolding state_of
offset_bounds-sizes-at c =
    let f = facts (state_of c.args.w.now) c.requires.1 in
    omega (arith, f.first-high, f.slots-high)

pub bounds-sizes-at : goal.bounds-sizes-at
unfolding state_of
bounds-sizes-at c =
    let f = facts (state_of c.args.w.now) c.requires.1 in
    omega (arith, f.first-high, c.requires.3)

pub wrong_head-wrong-requires : goal.wrong_head-wrong-requires
unfolding state_of
wrong_head-wrong-requires c =
    let f = facts (state_of c.args.w.now) c.requires.1 in
    omega (arith, f.count-high, f.slots-high)

pub returns-then-wrong : goal.returns-then-wrong
unfolding state_of
returns-then-wrong c =
    let q = c.requires in
    let wrong = sym (rw c.from-size.ensures at c.wrong_head-wrong.ensures) ∙ c.if-wrong.true in
    λ row fits.
    rw (departure-wrong _ row _ q.1 fits _ _ q.2 q.3 c.if-wrong_clock.false (ne_eqb _ _ c.if-empty.false) wrong) (c.refused-then-wrong.ensures, kept _ _ (refl, q.0))

pub offset_bounds-handles-at : goal.offset_bounds-handles-at
unfolding state_of
offset_bounds-handles-at c =
    let f = facts (state_of c.args.w.now) c.requires.1 in
    omega (arith, f.first-high, f.slots-high)

pub bounds-handles-at : goal.bounds-handles-at
unfolding state_of
bounds-handles-at c =
    let f = facts (state_of c.args.w.now) c.requires.1 in
    omega (arith, f.first-high, c.requires.2)

pub following-next-requires : goal.following-next-requires
unfolding state_of
following-next-requires c =
    let f = facts (state_of c.args.w.now) c.requires.1 in
    (f.first-high, f.slots-high)

pub overflow_sub-w : goal.overflow_sub-w
overflow_sub-w c =
    omega (arith, c.if-empty.false)

pub overflow_sub-w-2 : goal.overflow_sub-w-2
unfolding state_of
overflow_sub-w-2 c =
    let right : head_refused (state_of c.args.w.now).backlog (head_of (state_of c.args.w.now) c.args.sizes.now) ≡ false =
    sym (rw c.from-size.ensures at c.wrong_head-wrong.ensures) ∙ c.if-wrong.false in
    let fit : HeadFits (state_of c.args.w.now).backlog (head_of (state_of c.args.w.now) c.args.sizes.now) = head-fits _ _ right in
    rw c.from-size.ensures fit.fits

pub word-requires : goal.word-requires
unfolding state_of
word-requires c =
    let right : head_refused (state_of c.args.w.now).backlog (head_of (state_of c.args.w.now) c.args.sizes.now) ≡ false =
    sym (rw c.from-size.ensures at c.wrong_head-wrong.ensures) ∙ c.if-wrong.false in
    let fit : HeadFits (state_of c.args.w.now).backlog (head_of (state_of c.args.w.now) c.args.sizes.now) = head-fits _ _ right in
    (omega arith, fit.high)

pub returns : goal.returns
unfolding state_of
returns c =
    let q = c.requires in
    let right : head_refused (state_of c.args.w.now).backlog (head_of (state_of c.args.w.now) c.args.sizes.now) ≡ false =
    sym (rw c.from-size.ensures at c.wrong_head-wrong.ensures) ∙ c.if-wrong.false in
    let words = departed-words c.args.clock (head_of (state_of c.args.w.now) c.args.sizes.now) c.args.w.now q.0 in
    λ row fits.
    rw (departure-made _ row _ q.1 fits _ _ q.2 q.3 c.if-wrong_clock.false (ne_eqb _ _ c.if-empty.false) right)
    (c.word.ensures, rw (c.following-next.ensures, c.from-size.ensures) words)
