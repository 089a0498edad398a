-- `depart`: the tests in their order, then the words in which the new state differs.
use Rattle.ring_steps.proofs.departing.depart.Goals as goal
use mathlib.Core.Path.{ap, refl, sym, ◌∙◌}
use Prim.Native.Nat.{◌≤◌}
use native.Mathlib.Omega.{arith}
use lib.Dec.{ltb}
use lib.ListN.{get_or}
use borrow.Author.Tests.{eq-eqb, ltb-false, ne_eqb}
use Rattle.laws.proofs.Tests.{or-neither}
use Rattle.pie.specs.declared.Rate.{Rate}
use Rattle.refusals.proofs.Fitting.{head-fits}
use Rattle.ring.specs.Departure.{head_of}
use Rattle.ring.proofs.Facts.{facts}
use Rattle.ring_words.specs.Words.{state_of}
use Rattle.ring_steps.proofs.Replies.{departure-empty, departure-late, departure-made, departure-wrong}
use Rattle.ring_steps.proofs.Words.{departed-words, left-long, left-rate}

pub returns-then-wrong_clock : goal.returns-then-wrong_clock
unfolding state_of
returns-then-wrong_clock c =
    let q = c.requires in
    rw (departure-late _ _ _ _ q.1 q.2 q.3 c.if-wrong_clock.true, c.refused.ensures) (refl, refl)

pub returns-then-empty : goal.returns-then-empty
unfolding state_of
returns-then-empty c =
    let q = c.requires in
    rw (departure-empty _ _ _ _ q.1 q.2 q.3 c.if-wrong_clock.false (eq-eqb _ _ c.if-empty.true), c.refused-then-empty.ensures) (refl, refl)

pub offset_bounds-sizes-at : goal.offset_bounds-sizes-at
unfolding state_of
offset_bounds-sizes-at c = let f = facts _ c.requires.1 in omega (arith, f.first-high, f.slots-high)

pub bounds-sizes-at : goal.bounds-sizes-at
unfolding state_of
bounds-sizes-at c = let f = facts _ c.requires.1 in omega (arith, f.first-high, c.requires.3)

pub wrong_head-wrong-requires : goal.wrong_head-wrong-requires
unfolding state_of
wrong_head-wrong-requires c =
    let n = c.if-empty.false in
    let f = facts _ c.requires.1 in omega (arith, f.count-high, f.slots-high)

pub returns-then-wrong : goal.returns-then-wrong
unfolding state_of
returns-then-wrong c =
    let q = c.requires in
    let wrong = sym (rw c.wide-size.ensures at c.wrong_head-wrong.ensures) ∙ c.if-wrong.true in
    rw (departure-wrong _ _ _ _ q.1 q.2 q.3 c.if-wrong_clock.false (ne_eqb _ _ c.if-empty.false) wrong, c.refused-then-wrong.ensures) (refl, refl)

pub offset_bounds-handles-at : goal.offset_bounds-handles-at
unfolding state_of
offset_bounds-handles-at c = let f = facts _ c.requires.1 in omega (arith, f.first-high, f.slots-high)

pub bounds-handles-at : goal.bounds-handles-at
unfolding state_of
bounds-handles-at c = let f = facts _ c.requires.1 in omega (arith, f.first-high, c.requires.2)

pub leave-rest-requires : goal.leave-rest-requires
unfolding state_of
leave-rest-requires c =
    let n = c.if-empty.false in
    (omega arith, rw c.wide-size.ensures (head-fits (state_of c.args.w.now).backlog (head_of (state_of c.args.w.now) c.args.sizes.now) (sym (rw c.wide-size.ensures at c.wrong_head-wrong.ensures) ∙ c.if-wrong.false)).fits)

pub following-next-requires : goal.following-next-requires
unfolding state_of
following-next-requires c = let f = facts _ c.requires.1 in (f.first-high, f.slots-high)

pub measure-requires-clause-k_in_bounds : goal.measure-requires-clause-k_in_bounds
unfolding state_of
measure-requires-clause-k_in_bounds c =
    let a = c in
    let f = facts _ a.requires.1 in
    let w = a.args.w.now in
    let rest = c.leave-rest.result in
    let first = c.following-next.result in
    let same = left-rate a.args.clock rest.count rest.bytes.0 first w a.requires.0 in
    let low = (or-neither (ltb a.args.clock (get_or w 3 0)) _ c.if-wrong_clock.false).0 in
    let later : get_or w 3 0 ≤ a.args.clock = ltb-false _ _ low in omega (arith, left-long a.args.clock rest.count rest.bytes.0 first w a.requires.0)

pub measure-requires-clause-k_bound : goal.measure-requires-clause-k_bound
unfolding state_of
measure-requires-clause-k_bound c =
    let a = c in
    let f = facts _ a.requires.1 in
    let w = a.args.w.now in
    let rest = c.leave-rest.result in
    let first = c.following-next.result in
    let same = left-rate a.args.clock rest.count rest.bytes.0 first w a.requires.0 in
    let low = (or-neither (ltb a.args.clock (get_or w 3 0)) _ c.if-wrong_clock.false).0 in
    let later : get_or w 3 0 ≤ a.args.clock = ltb-false _ _ low in (
      rw (ap (λ (r : Rate). r.start.0) same) (omega (arith, f.start-high, later)),
      rw (ap (λ (r : Rate). r.average.0) same) f.average-high,
      rw (ap (λ (r : Rate). r.counted.0) same) f.counted-high,
      rw c.wide-size.ensures (head-fits (state_of c.args.w.now).backlog (head_of (state_of c.args.w.now) c.args.sizes.now) (sym (rw c.wide-size.ensures at c.wrong_head-wrong.ensures) ∙ c.if-wrong.false)).high,
    )

pub word-requires : goal.word-requires
unfolding state_of
word-requires c = (omega arith, (head-fits (state_of c.args.w.now).backlog (head_of (state_of c.args.w.now) c.args.sizes.now) (sym (rw c.wide-size.ensures at c.wrong_head-wrong.ensures) ∙ c.if-wrong.false)).high)

pub returns : goal.returns
unfolding state_of
returns c =
    let a = c in
    let q = a.requires in
    let w = a.args.w.now in
    let made = departure-made (state_of w) a.args.handles.now a.args.sizes.now a.args.clock q.1 q.2 q.3 c.if-wrong_clock.false (ne_eqb _ _ c.if-empty.false) (sym (rw c.wide-size.ensures at c.wrong_head-wrong.ensures) ∙ c.if-wrong.false) in
    let words = departed-words a.args.clock (head_of (state_of w) a.args.sizes.now) w q.0 in
    rw made (c.word.ensures, rw (c.following-next.ensures, c.leave-rest.ensures, c.wide-size.ensures) at c.measure.ensures ∙ words)
