-- `tick_calm`: an inactive queue's clocks, or the update and whether it turns inactive.
use Rattle.ring_steps.proofs.ticking.tick_calm.Goals as goal
use borrow.Author.Tests.{eq-eqb, ne_eqb}
use mathlib.Core.Path.{ap}
use mathlib.Core.Bool.{not, true}
use native.Mathlib.Omega.{arith}
use Rattle.pie.proofs.Ranges.{updated-old-le}
use Rattle.ring.proofs.Facts.{facts}
use Rattle.ring_words.specs.Words.{state_of}
use Rattle.ring_steps.proofs.Words.{idle-words, stays-active, turns-inactive}

pub update-next-requires-clause-k_in_bounds : goal.update-next-requires-clause-k_in_bounds
unfolding state_of
update-next-requires-clause-k_in_bounds c =
    let a = c in
    let f = facts _ a.requires.1 in omega (arith, a.requires.0)

pub update-next-requires-clause-k_bound : goal.update-next-requires-clause-k_bound
unfolding state_of
update-next-requires-clause-k_bound c =
    let a = c in
    let f = facts _ a.requires.1 in (f.prob-high, f.old-high, f.average-high, omega (arith, f.bytes_fit, f.buffer-high), f.target-high)

pub refills-quiet-requires : goal.refills-quiet-requires
unfolding state_of
refills-quiet-requires c = let f = facts _ c.requires.1 in (rw c.update-next.ensures.value (updated-old-le _ true _ _), f.old-high)

pub overflow_mul-loaded : goal.overflow_mul-loaded
unfolding state_of
overflow_mul-loaded c = let f = facts _ c.requires.1 in omega (arith, f.bytes_fit, f.buffer-high)

pub returns-then-inactive : goal.returns-then-inactive
returns-then-inactive c = let a = c in idle-words a.args.clock a.args.w.now a.requires.0 (ap not (eq-eqb _ _ c.if-inactive.true))

pub returns-then-turns : goal.returns-then-turns
unfolding state_of
returns-then-turns c =
    let a = c in
    let r = c in
    let u = r.update-next in
    turns-inactive a.args.clock a.args.w.now a.requires.0 (ap not (ne_eqb _ _ c.if-inactive.false)) a.requires.2 _ u.ensures.value
    r.refills-quiet.result r.refills-quiet.ensures _ u.ensures.w_after
    c.if-turns.true

pub returns-else-turns : goal.returns-else-turns
unfolding state_of
returns-else-turns c =
    let a = c in
    let r = c in
    let u = r.update-next in
    stays-active a.args.clock a.args.w.now a.requires.0 (ap not (ne_eqb _ _ c.if-inactive.false)) a.requires.2 _ u.ensures.value
    r.refills-quiet.result r.refills-quiet.ensures _ u.ensures.w_after
    c.if-turns.false
