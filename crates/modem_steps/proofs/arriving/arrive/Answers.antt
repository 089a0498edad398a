-- `arrive`: the tests in their order, then the words in which the new state differs, one count, and the tail of both tables.
use mathlib.Core.Path.{◌≡◌, refl, ap, sym, ◌∙◌}
use mathlib.Core.Bool.{true, false}
use Prim.Native.Nat.{◌+◌, ◌≤◌, ◌<◌}
use native.Mathlib.Nat.{mod-lt}
use native.Mathlib.Omega.{arith}
use lib.Dec.{eqb}
use lib.ListN.{get_or, set}
use lib.Seq.{get_or-set_other}
use borrow.Author.Tests.{ltb-false}
use Rattle.laws.proofs.Tests.{or-neither}
use Rattle.pie.specs.Constants.{largest, most_verdicts}
use Rattle.pie.specs.Verdicts.{admitted, place_of, total}
use Rattle.pie.specs.declared.Verdict.{Verdict}
use Rattle.refusals.specs.Answer.{verdict}
use Rattle.refusals.specs.Tests.{size_refused}
use Rattle.modem_flow.specs.Arrival.{decision_of, tail_place}
use Rattle.modem_flow.proofs.Facts.{facts}
use Rattle.modem.specs.Counts.{counts_after, row_of}
use Rattle.modem_words.specs.Words.{state_of}
use Rattle.modem_words.proofs.Changed.{kept}
use Rattle.modem_steps.specs.Words.{pie_words}
use Rattle.modem_steps.proofs.Arrivals.{entered-ok, queue-same, turned-away}
use Rattle.modem_steps.proofs.Words.{QueueSame}
use Rattle.modem_steps.proofs.Replies.{arrival-late, arrival-made, arrival-wrong}
use Rattle.modem_steps.proofs.arriving.arrive.Goals as goal

pub returns-then-wrong_clock : goal.returns-then-wrong_clock
unfolding state_of counts_after
returns-then-wrong_clock c =
    let fit : total (row_of c.args.counts.now c.args.flow) ≤ most_verdicts = omega (arith, c.requires.ready.2) in
    let q = c.requires.ready in
    rw (arrival-late _ _ _ q.1.1 fit _ _ q.1.2 q.1.3 _ _ c.if-wrong_clock.true) (c.refused.ensures, kept _ _ (refl, q.1.0), refl, refl, refl)

pub returns-then-wrong_size : goal.returns-then-wrong_size
unfolding state_of counts_after
returns-then-wrong_size c =
    let fit : total (row_of c.args.counts.now c.args.flow) ≤ most_verdicts = omega (arith, c.requires.ready.2) in
    let q = c.requires.ready in
    rw (arrival-wrong _ _ _ q.1.1 fit _ _ q.1.2 q.1.3 _ _ c.if-wrong_clock.false (rw c.from-bytes.ensures at c.if-wrong_size.true))
    (c.refused-then-wrong_size.ensures, kept _ _ (refl, q.1.0), refl, refl, refl)

pub decide-v-requires : goal.decide-v-requires
decide-v-requires c =
    let q = c.requires.ready in
    let sized : size_refused (get_or c.args.calls.now (c.args.at + 3) 0) ≡ false = rw c.from-bytes.ensures at c.if-wrong_size.false in
    let small : (get_or c.args.calls.now (c.args.at + 3) 0) ≤ largest = ltb-false _ _ (or-neither (eqb (get_or c.args.calls.now (c.args.at + 3) 0) 0) _ sized).1 in
    (q.1.0, q.1.1, rw c.from-bytes.ensures small, c.requires.at_in_bounds)

pub raise-requires : goal.raise-requires
raise-requires c = let q = c.requires.ready in (q.0, omega (arith, q.2))

pub tail_place-tail-requires : goal.tail_place-tail-requires
unfolding state_of
tail_place-tail-requires c =
    let f = facts (state_of c.args.w.now) c.requires.ready.1.1 in
    let written : c.decide-v.new.w ≡ pie_words c.args.w.now (decision_of (state_of c.args.w.now) (get_or c.args.calls.now (c.args.at + 3) 0) (get_or c.args.calls.now (c.args.at + 4) 0)).pie = rw (← c.from-bytes.ensures) c.decide-v.ensures.1 in
    let reads : QueueSame c.args.w.now (set c.decide-v.new.w 5 c.args.clock) = queue-same c.args.w.now c.decide-v.new.w c.requires.ready.1.0 (decision_of (state_of c.args.w.now) (get_or c.args.calls.now (c.args.at + 3) 0) (get_or c.args.calls.now (c.args.at + 4) 0)).pie written c.args.clock in
    rw (reads.0, reads.1, reads.2) (f.first-high, f.count-high, f.slots-high)

pub overflow_add-w : goal.overflow_add-w
unfolding state_of
overflow_add-w c =
    let f = facts (state_of c.args.w.now) c.requires.ready.1.1 in
    let written : c.decide-v.new.w ≡ pie_words c.args.w.now (decision_of (state_of c.args.w.now) (get_or c.args.calls.now (c.args.at + 3) 0) (get_or c.args.calls.now (c.args.at + 4) 0)).pie = rw (← c.from-bytes.ensures) c.decide-v.ensures.1 in
    let reads : QueueSame c.args.w.now (set c.decide-v.new.w 5 c.args.clock) = queue-same c.args.w.now c.decide-v.new.w c.requires.ready.1.0 (decision_of (state_of c.args.w.now) (get_or c.args.calls.now (c.args.at + 3) 0) (get_or c.args.calls.now (c.args.at + 4) 0)).pie written c.args.clock in
    rw reads.2 (omega (arith, f.count-high, f.slots-high))

pub overflow_add-w-then-admits : goal.overflow_add-w-then-admits
unfolding state_of
overflow_add-w-then-admits c =
    let f = facts (state_of c.args.w.now) c.requires.ready.1.1 in
    let sized : size_refused (get_or c.args.calls.now (c.args.at + 3) 0) ≡ false = rw c.from-bytes.ensures at c.if-wrong_size.false in
    let small : (get_or c.args.calls.now (c.args.at + 3) 0) ≤ largest = ltb-false _ _ (or-neither (eqb (get_or c.args.calls.now (c.args.at + 3) 0) 0) _ sized).1 in
    let written : c.decide-v.new.w ≡ pie_words c.args.w.now (decision_of (state_of c.args.w.now) (get_or c.args.calls.now (c.args.at + 3) 0) (get_or c.args.calls.now (c.args.at + 4) 0)).pie = rw (← c.from-bytes.ensures) c.decide-v.ensures.1 in
    let reads : QueueSame c.args.w.now (set c.decide-v.new.w 5 c.args.clock) = queue-same c.args.w.now c.decide-v.new.w c.requires.ready.1.0 (decision_of (state_of c.args.w.now) (get_or c.args.calls.now (c.args.at + 3) 0) (get_or c.args.calls.now (c.args.at + 4) 0)).pie written c.args.clock in
    rw ((get_or-set_other (set c.decide-v.new.w 5 c.args.clock) 14 15 (get_or (set c.decide-v.new.w 5 c.args.clock) 14 0 + 1) 0 (λ same. omega arith) ∙ reads.3), c.from-bytes.ensures) (omega (arith, f.bytes_fit, f.buffer-high, small))

pub offset_bounds-handles-tail : goal.offset_bounds-handles-tail
unfolding state_of
offset_bounds-handles-tail c =
    let f = facts (state_of c.args.w.now) c.requires.ready.1.1 in
    let written : c.decide-v.new.w ≡ pie_words c.args.w.now (decision_of (state_of c.args.w.now) (get_or c.args.calls.now (c.args.at + 3) 0) (get_or c.args.calls.now (c.args.at + 4) 0)).pie = rw (← c.from-bytes.ensures) c.decide-v.ensures.1 in
    let reads : QueueSame c.args.w.now (set c.decide-v.new.w 5 c.args.clock) = queue-same c.args.w.now c.decide-v.new.w c.requires.ready.1.0 (decision_of (state_of c.args.w.now) (get_or c.args.calls.now (c.args.at + 3) 0) (get_or c.args.calls.now (c.args.at + 4) 0)).pie written c.args.clock in
    let tail : c.tail_place-tail.result ≡ tail_place (state_of c.args.w.now) = rw (reads.0, reads.1, reads.2) at c.tail_place-tail.ensures in
    let low : c.tail_place-tail.result < (state_of c.args.w.now).settings.slots = rw tail (mod-lt _ f.slots-low) in
    omega (arith, low, f.slots-high)

pub bounds-handles-tail : goal.bounds-handles-tail
unfolding state_of
bounds-handles-tail c =
    let f = facts (state_of c.args.w.now) c.requires.ready.1.1 in
    let written : c.decide-v.new.w ≡ pie_words c.args.w.now (decision_of (state_of c.args.w.now) (get_or c.args.calls.now (c.args.at + 3) 0) (get_or c.args.calls.now (c.args.at + 4) 0)).pie = rw (← c.from-bytes.ensures) c.decide-v.ensures.1 in
    let reads : QueueSame c.args.w.now (set c.decide-v.new.w 5 c.args.clock) = queue-same c.args.w.now c.decide-v.new.w c.requires.ready.1.0 (decision_of (state_of c.args.w.now) (get_or c.args.calls.now (c.args.at + 3) 0) (get_or c.args.calls.now (c.args.at + 4) 0)).pie written c.args.clock in
    let tail : c.tail_place-tail.result ≡ tail_place (state_of c.args.w.now) = rw (reads.0, reads.1, reads.2) at c.tail_place-tail.ensures in
    let low : c.tail_place-tail.result < (state_of c.args.w.now).settings.slots = rw tail (mod-lt _ f.slots-low) in
    omega (arith, low, c.requires.ready.1.2)

pub offset_bounds-sizes-tail : goal.offset_bounds-sizes-tail
unfolding state_of
offset_bounds-sizes-tail c =
    let f = facts (state_of c.args.w.now) c.requires.ready.1.1 in
    let written : c.decide-v.new.w ≡ pie_words c.args.w.now (decision_of (state_of c.args.w.now) (get_or c.args.calls.now (c.args.at + 3) 0) (get_or c.args.calls.now (c.args.at + 4) 0)).pie = rw (← c.from-bytes.ensures) c.decide-v.ensures.1 in
    let reads : QueueSame c.args.w.now (set c.decide-v.new.w 5 c.args.clock) = queue-same c.args.w.now c.decide-v.new.w c.requires.ready.1.0 (decision_of (state_of c.args.w.now) (get_or c.args.calls.now (c.args.at + 3) 0) (get_or c.args.calls.now (c.args.at + 4) 0)).pie written c.args.clock in
    let tail : c.tail_place-tail.result ≡ tail_place (state_of c.args.w.now) = rw (reads.0, reads.1, reads.2) at c.tail_place-tail.ensures in
    let low : c.tail_place-tail.result < (state_of c.args.w.now).settings.slots = rw tail (mod-lt _ f.slots-low) in
    omega (arith, low, f.slots-high)

pub bounds-sizes-tail : goal.bounds-sizes-tail
unfolding state_of
bounds-sizes-tail c =
    let f = facts (state_of c.args.w.now) c.requires.ready.1.1 in
    let written : c.decide-v.new.w ≡ pie_words c.args.w.now (decision_of (state_of c.args.w.now) (get_or c.args.calls.now (c.args.at + 3) 0) (get_or c.args.calls.now (c.args.at + 4) 0)).pie = rw (← c.from-bytes.ensures) c.decide-v.ensures.1 in
    let reads : QueueSame c.args.w.now (set c.decide-v.new.w 5 c.args.clock) = queue-same c.args.w.now c.decide-v.new.w c.requires.ready.1.0 (decision_of (state_of c.args.w.now) (get_or c.args.calls.now (c.args.at + 3) 0) (get_or c.args.calls.now (c.args.at + 4) 0)).pie written c.args.clock in
    let tail : c.tail_place-tail.result ≡ tail_place (state_of c.args.w.now) = rw (reads.0, reads.1, reads.2) at c.tail_place-tail.ensures in
    let low : c.tail_place-tail.result < (state_of c.args.w.now).settings.slots = rw tail (mod-lt _ f.slots-low) in
    omega (arith, low, c.requires.ready.1.3)

pub returns-then-admits : goal.returns-then-admits
unfolding state_of
returns-then-admits c =
    let q = c.requires.ready in
    let fit : total (row_of c.args.counts.now c.args.flow) ≤ most_verdicts = omega (arith, c.requires.ready.2) in
    let sized : size_refused (get_or c.args.calls.now (c.args.at + 3) 0) ≡ false = rw c.from-bytes.ensures at c.if-wrong_size.false in
    let placed : c.decide-v.result ≡ (decision_of (state_of c.args.w.now) (get_or c.args.calls.now (c.args.at + 3) 0) (get_or c.args.calls.now (c.args.at + 4) 0)).verdict = rw (← c.from-bytes.ensures) c.decide-v.ensures.0 in
    let written : c.decide-v.new.w ≡ pie_words c.args.w.now (decision_of (state_of c.args.w.now) (get_or c.args.calls.now (c.args.at + 3) 0) (get_or c.args.calls.now (c.args.at + 4) 0)).pie = rw (← c.from-bytes.ensures) c.decide-v.ensures.1 in
    let reads : QueueSame c.args.w.now (set c.decide-v.new.w 5 c.args.clock) = queue-same c.args.w.now c.decide-v.new.w c.requires.ready.1.0 (decision_of (state_of c.args.w.now) (get_or c.args.calls.now (c.args.at + 3) 0) (get_or c.args.calls.now (c.args.at + 4) 0)).pie written c.args.clock in
    let tail : c.tail_place-tail.result ≡ tail_place (state_of c.args.w.now) = rw (reads.0, reads.1, reads.2) at c.tail_place-tail.ensures in
    let admits : admitted (decision_of (state_of c.args.w.now) (get_or c.args.calls.now (c.args.at + 3) 0) (get_or c.args.calls.now (c.args.at + 4) 0)).verdict ≡ true = ap admitted (sym placed) ∙ sym c.admits-admits.ensures ∙ c.if-admits.true in
    let made = arrival-made (state_of c.args.w.now) (row_of c.args.counts.now c.args.flow) c.args.clock q.1.1 fit c.args.handles.now c.args.sizes.now q.1.2 q.1.3 (get_or c.args.calls.now (c.args.at + 3) 0) (get_or c.args.calls.now (c.args.at + 4) 0) c.if-wrong_clock.false sized (omega (arith, q.2)) in
    let words = entered-ok c.args.w.now c.decide-v.new.w q.1.0 c.args.clock (get_or c.args.calls.now (c.args.at + 3) 0) (get_or c.args.calls.now (c.args.at + 4) 0) written admits in
    let counted = c.raise.ensures ∙ ap (λ (v : Verdict). counts_after c.args.counts.now c.args.flow (verdict v)) placed in
    rw made (c.place-place.ensures.0 ∙ ap place_of placed, rw ((get_or-set_other (set c.decide-v.new.w 5 c.args.clock) 14 15 (get_or (set c.decide-v.new.w 5 c.args.clock) 14 0 + 1) 0 (λ same. omega arith) ∙ reads.3), reads.2, c.from-bytes.ensures) words, counted, rw (admits, tail), rw (admits, tail))

pub returns-else-admits : goal.returns-else-admits
unfolding state_of
returns-else-admits c =
    let q = c.requires.ready in
    let fit : total (row_of c.args.counts.now c.args.flow) ≤ most_verdicts = omega (arith, c.requires.ready.2) in
    let sized : size_refused (get_or c.args.calls.now (c.args.at + 3) 0) ≡ false = rw c.from-bytes.ensures at c.if-wrong_size.false in
    let placed : c.decide-v.result ≡ (decision_of (state_of c.args.w.now) (get_or c.args.calls.now (c.args.at + 3) 0) (get_or c.args.calls.now (c.args.at + 4) 0)).verdict = rw (← c.from-bytes.ensures) c.decide-v.ensures.0 in
    let written : c.decide-v.new.w ≡ pie_words c.args.w.now (decision_of (state_of c.args.w.now) (get_or c.args.calls.now (c.args.at + 3) 0) (get_or c.args.calls.now (c.args.at + 4) 0)).pie = rw (← c.from-bytes.ensures) c.decide-v.ensures.1 in
    let admits : admitted (decision_of (state_of c.args.w.now) (get_or c.args.calls.now (c.args.at + 3) 0) (get_or c.args.calls.now (c.args.at + 4) 0)).verdict ≡ false = ap admitted (sym placed) ∙ sym c.admits-admits.ensures ∙ c.if-admits.false in
    let made = arrival-made (state_of c.args.w.now) (row_of c.args.counts.now c.args.flow) c.args.clock q.1.1 fit c.args.handles.now c.args.sizes.now q.1.2 q.1.3 (get_or c.args.calls.now (c.args.at + 3) 0) (get_or c.args.calls.now (c.args.at + 4) 0) c.if-wrong_clock.false sized (omega (arith, q.2)) in
    let words = turned-away c.args.w.now c.decide-v.new.w q.1.0 c.args.clock (get_or c.args.calls.now (c.args.at + 3) 0) (get_or c.args.calls.now (c.args.at + 4) 0) written admits in
    let counted = c.raise.ensures ∙ ap (λ (v : Verdict). counts_after c.args.counts.now c.args.flow (verdict v)) placed in
    rw made (c.place-place.ensures.0 ∙ ap place_of placed, words, counted, rw admits, rw admits)
