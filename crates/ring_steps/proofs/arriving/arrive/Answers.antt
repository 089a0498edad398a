-- `arrive`: the tests in their order, then the rules, and the words of a queue that turns active.
use Rattle.ring_steps.proofs.arriving.arrive.Goals as goal
use mathlib.Core.Path.{◌≡◌, ap, refl, ◌∙◌}
use mathlib.Core.Bool.{Bool, false, not, ◌||◌}
use mathlib.Core.List.{List}
use Prim.Native.Nat.{ℕ, ◌≤◌}
use native.Mathlib.Omega.{arith}
use lib.Dec.{eqb, ltb}
use lib.ListN.{get_or}
use borrow.Author.Tests.{eq-eqb, le-ltb, lt-ltb, ltb-false, ne_eqb}
use Rattle.laws.proofs.Tests.{or-neither}
use Rattle.pie.specs.Constants.{largest, latest}
use Rattle.refusals.specs.Tests.{size_refused}
use Rattle.ring.specs.Arrival.{arrival}
use Rattle.ring.proofs.Facts.{facts}
use Rattle.ring_words.specs.Lent.{lent}
use Rattle.ring_words.specs.Words.{state_of}
use Rattle.ring_steps.specs.Fitting.{Ready}
use Rattle.ring_steps.proofs.Arrivals.{active-stays, light-stays, turns-active}
use Rattle.ring_steps.proofs.Replies.{arrival-late, arrival-made, arrival-wrong, arrival_made}

small : (size : ℕ) → size_refused size ≡ false → size ≤ largest
small size e = ltb-false _ _ (or-neither (eqb size 0) _ e).1

made : (w handles sizes : List ℕ) (clock size : ℕ) (ecn : Bool) (u : ℕ) → Ready (lent w handles sizes) 1 →
    (ltb clock (get_or w 3 0) || ltb latest clock) ≡ false → size_refused size ≡ false →
    arrival (state_of w) handles sizes clock size ecn u ≡ arrival_made (state_of w) clock size ecn u
unfolding state_of
made w handles sizes clock size ecn u r late right =
    let q = r.0 in arrival-made (state_of w) handles sizes clock q.1 q.2 q.3 size ecn u late right (omega (arith, r.1))

pub returns-then-wrong_clock : goal.returns-then-wrong_clock
unfolding state_of
returns-then-wrong_clock c =
    let q = c.requires.0 in
    rw (arrival-late _ _ _ _ q.1 q.2 q.3 _ _ _ c.if-wrong_clock.true, c.refused.ensures) (refl, refl, refl, refl)

pub returns-then-wrong_size : goal.returns-then-wrong_size
unfolding state_of
returns-then-wrong_size c =
    let q = c.requires.0 in
    rw (arrival-wrong _ _ _ _ q.1 q.2 q.3 _ _ _ c.if-wrong_clock.false (rw c.wide-bytes.ensures at c.if-wrong_size.true), c.refused-then-wrong_size.ensures)
    (refl, refl, refl, refl)

pub take-v-requires-clause-ready : goal.take-v-requires-clause-ready
take-v-requires-clause-ready c = c.requires

pub take-v-requires-clause-size_le_largest : goal.take-v-requires-clause-size_le_largest
take-v-requires-clause-size_le_largest c = small c.args.size (rw c.wide-bytes.ensures at c.if-wrong_size.false)

pub returns-then-active : goal.returns-then-active
returns-then-active c =
    let right = rw c.wide-bytes.ensures at c.if-wrong_size.false in
    let m = made c.args.w.now c.args.handles.now c.args.sizes.now c.args.clock c.args.size c.args.ecn c.args.u c.requires c.if-wrong_clock.false right in
    let e = c.take-v.ensures in
    rw m (e.0, active-stays c.args.clock c.args.size _ c.args.w.now _ e.1 (ap not (ne_eqb _ _ c.if-active.true)), e.2, e.3)

pub overflow_mul-loaded : goal.overflow_mul-loaded
unfolding state_of
overflow_mul-loaded c = let f = facts _ c.requires.0.1 in omega (arith, f.bytes_fit, f.buffer-high)

pub returns-then-loaded : goal.returns-then-loaded
returns-then-loaded c =
    let right = rw c.wide-bytes.ensures at c.if-wrong_size.false in
    let m = made c.args.w.now c.args.handles.now c.args.sizes.now c.args.clock c.args.size c.args.ecn c.args.u c.requires c.if-wrong_clock.false right in
    let e = c.take-v.ensures in
    let words = turns-active c.args.clock c.args.size _ c.args.w.now _ e.1 (ap not (eq-eqb _ _ c.if-active.false)) (lt-ltb _ _ c.if-loaded.true) in
    rw m (e.0, c.restart.ensures ∙ words, e.2, e.3)

pub returns-else-loaded : goal.returns-else-loaded
returns-else-loaded c =
    let right = rw c.wide-bytes.ensures at c.if-wrong_size.false in
    let m = made c.args.w.now c.args.handles.now c.args.sizes.now c.args.clock c.args.size c.args.ecn c.args.u c.requires c.if-wrong_clock.false right in
    let e = c.take-v.ensures in
    let words = light-stays c.args.clock c.args.size _ c.args.w.now _ e.1 (ap not (eq-eqb _ _ c.if-active.false)) (le-ltb _ _ c.if-loaded.false) in
    rw m (e.0, words, e.2, e.3)
