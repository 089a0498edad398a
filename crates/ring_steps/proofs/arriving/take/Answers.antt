-- `take`: the words in which the new state differs, and the tail of both tables.
use Rattle.ring_steps.proofs.arriving.take.Goals as goal
use borrow.Author.Tests.{le-ltb, lt-ltb}
use mathlib.Core.Path.{◌≡◌}
use mathlib.Core.Bool.{true, false}
use mathlib.Core.Logic.{◌≢◌}
use mathlib.Core.List.{List}
use Prim.Native.Nat.{ℕ, ◌+◌, ◌<◌}
use native.Mathlib.Nat.{mod-lt}
use native.Mathlib.Omega.{arith}
use lib.ListN.{get_or, set}
use Rattle.pie.specs.Verdicts.{place_of}
use Rattle.pie.specs.declared.Verdict.{Verdict}
use Rattle.pie.proofs.Counts.{place-lt}
use Rattle.ring.specs.Arrival.{tail_place, verdict_of}
use Rattle.ring.proofs.Facts.{Facts, facts}
use Rattle.ring_words.specs.Words.{state_of}
use Rattle.ring_steps.specs.Words.{decided_words}
use Rattle.ring_steps.proofs.Arrivals.{admits-as, count_low, counted-ok, entered-ok, past, past_bytes}
use Rattle.ring_steps.proofs.arriving.take.Lts
use Rattle.ring_steps.proofs.arriving.take.Reads
use Rattle.ring_steps.proofs.arriving.take.Tie

abbrev Start : Type 0
Start = Lts.Start Tie.the-claims Reads.Pre Reads.Post Tie.handed_clauses

abbrev After-decide-v : Type 0
After-decide-v = Lts.After-decide Tie.the-claims Reads.Pre Reads.Post Tie.handed_clauses

abbrev After-tail_place-tail : Type 0
After-tail_place-tail = Lts.After-tail_place Tie.the-claims Reads.Pre Reads.Post Tie.handed_clauses

abbrev words_at : Start → List ℕ
words_at a = a.args.w.now

abbrev ruled : Start → Verdict
ruled a = verdict_of (state_of (words_at a)) a.args.size a.args.ecn a.args.u

known : (a : Start) → Facts (state_of (words_at a))
known a = facts _ a.requires.ready.0.1

abbrev begun : After-decide-v → Start
begun c = c.before.before.before.before.before

ruled-place : (c : After-decide-v) → c.decide-v.result ≡ place_of (ruled (begun c))
ruled-place c = rw c.wide-bytes.ensures at c.decide-v.ensures.value

place-low : (c : After-decide-v) → c.decide-v.result < 5
place-low c = rw (ruled-place c) (place-lt (ruled (begun c)))

ruled-words : (c : After-decide-v) → c.decide-v.new.w ≡ decided_words (words_at (begun c)) (ruled (begun c))
ruled-words c = rw c.wide-bytes.ensures at c.decide-v.ensures.w_after

kept : (c : After-decide-v) (count i : ℕ) → i < 16 → i ≢ 3 → i ≢ 8 →
    get_or (set (set c.decide-v.new.w 3 (begun c).args.clock) (16 + c.decide-v.result) count) i 0 ≡ get_or (words_at (begun c)) i 0
kept c count i = past (words_at (begun c)) c.decide-v.new.w _ (ruled-words c) (begun c).args.clock c.decide-v.result count i

tail-place : (c : After-tail_place-tail) → c.tail_place-tail.result ≡ tail_place (state_of (words_at (begun c.before.before.before.before.before.before.before)))
unfolding state_of
tail-place c =
    let v = c.before.before.before.before.before.before.before in
    rw (
      kept v _ 15 (omega arith) (omega arith) (omega arith),
      kept v _ 13 (omega arith) (omega arith) (omega arith),
      kept v _ 2 (omega arith) (omega arith) (omega arith),
    ) at c.tail_place-tail.ensures

tail-low : (c : After-tail_place-tail) → c.tail_place-tail.result < (state_of (words_at (begun c.before.before.before.before.before.before.before))).settings.slots
tail-low c = rw (tail-place c) (mod-lt _ (known (begun c.before.before.before.before.before.before.before)).slots-low)

pub overflow_add-w-then-admits-2 : goal.overflow_add-w-then-admits-2
unfolding state_of
overflow_add-w-then-admits-2 c =
    let v = c.before.before.before.before.before.before.before.before.before in
    let a = begun v in
    let f = known a in
    rw (past_bytes (words_at a) v.decide-v.new.w _ (ruled-words v) a.args.clock v.decide-v.result _ _)
    (omega (arith, f.bytes_fit, f.buffer-high, a.requires.size_le_largest, v.wide-bytes.ensures))

pub bounds-handles-tail : goal.bounds-handles-tail
bounds-handles-tail c = omega (arith, tail-low c.before.before, (begun c.before.before.before.before.before.before.before.before.before).requires.ready.0.2)

pub offset_bounds-sizes-tail : goal.offset_bounds-sizes-tail
offset_bounds-sizes-tail c = omega (arith, tail-low c.before.before, (known (begun c.before.before.before.before.before.before.before.before.before)).slots-high)

pub bounds-sizes-tail : goal.bounds-sizes-tail
bounds-sizes-tail c = omega (arith, tail-low c.before.before, (begun c.before.before.before.before.before.before.before.before.before).requires.ready.0.3)

pub overflow_add-row : goal.overflow_add-row
overflow_add-row c = omega (arith, place-low c.before)

pub offset_bounds-w-row : goal.offset_bounds-w-row
offset_bounds-w-row c = omega (arith, place-low c.before.before)

pub bounds-w-row : goal.bounds-w-row
bounds-w-row c = omega (arith, place-low c.before.before)

pub overflow_add-w : goal.overflow_add-w
overflow_add-w c =
    let v = c.before.before.before in
    let a = begun v in
    omega (arith, count_low (ruled a) v.decide-v.result (ruled-place v) (words_at a) v.decide-v.new.w (ruled-words v) a.args.clock 0 a.requires.ready.1)

pub offset_bounds-w-row-2 : goal.offset_bounds-w-row-2
offset_bounds-w-row-2 c = omega (arith, place-low c.before.before.before)

pub bounds-w-row-2 : goal.bounds-w-row-2
bounds-w-row-2 c = omega (arith, place-low c.before.before.before)

pub tail_place-tail-requires : goal.tail_place-tail-requires
unfolding state_of
tail_place-tail-requires c =
    let v = c.before.before.before.before.before.before.before in
    let f = known (begun v) in
    rw (
      kept v _ 15 (omega arith) (omega arith) (omega arith),
      kept v _ 13 (omega arith) (omega arith) (omega arith),
      kept v _ 2 (omega arith) (omega arith) (omega arith),
    ) (f.first-high, f.count-high, f.slots-high)

pub overflow_add-w-then-admits : goal.overflow_add-w-then-admits
unfolding state_of
overflow_add-w-then-admits c =
    let v = c.before.before.before.before.before.before.before.before.before in
    let f = known (begun v) in rw (kept v _ 13 (omega arith) (omega arith) (omega arith)) (omega arith)

pub offset_bounds-handles-tail : goal.offset_bounds-handles-tail
offset_bounds-handles-tail c = omega (arith, tail-low c.before.before, (known (begun c.before.before.before.before.before.before.before.before.before)).slots-high)

pub returns-then-admits : goal.returns-then-admits
unfolding state_of
returns-then-admits c =
    let v = c.before.before.before.before.before.before.before.before.before in
    let a = begun v in
    let t = lt-ltb _ _ c.if-admits.true in
    let e = ruled-place v in
    let admits = admits-as (ruled a) v.decide-v.result e true t in
    let words = entered-ok (ruled a) v.decide-v.result e (words_at a) v.decide-v.new.w (ruled-words v) a.args.clock a.args.size a.requires.ready.0.0 t in
    let place = tail-place c.before.before in
    (e, rw v.wide-bytes.ensures words, rw (admits, place), rw (admits, place))

pub returns-else-admits : goal.returns-else-admits
unfolding state_of
returns-else-admits c =
    let v = c.before.before.before.before in
    let a = begun v in
    let t = le-ltb _ _ c.if-admits.false in
    let e = ruled-place v in
    let admits = admits-as (ruled a) v.decide-v.result e false t in
    let words = counted-ok (ruled a) v.decide-v.result e (words_at a) v.decide-v.new.w (ruled-words v) a.args.clock a.args.size a.requires.ready.0.0 t in
    (e, words, rw admits, rw admits)
