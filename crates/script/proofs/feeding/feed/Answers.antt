-- `feed`: before each turn the bytes taken lead to the runner, the tables and the bytes written.
use mathlib.Core.Path.{◌≡◌, refl, sym, ◌∙◌}
use mathlib.Core.Bool.{false}
use mathlib.Core.List.{[]}
use Prim.Native.Nat.{ℕ, ◌+◌, ◌<◌, ◌≤◌}
use native.Mathlib.Omega.{arith}
use lib.ListN.{drop, length, length-drop}
use Rattle.lines.proofs.LineEnds.{line-within}
use Rattle.script.specs.Feeding.{fed, machine, stops}
use Rattle.script.specs.declared.Fed.{Fed}
use Rattle.script.specs.declared.Stage.{Stage}
use Rattle.script.proofs.Stops.{input-left, room-left}
use Rattle.script.proofs.Turns.{turn_end, turn-line}
use Rattle.script.proofs.feeding.feed.Goals as goal

-- what it says that the loop goes on
record Goes (taken n written o : ℕ) : Type 0 where
  more : taken < n
  roomy : written + 128 ≤ o

goes : (taken n : ℕ) (stage : Stage) (written o : ℕ) → stops taken n stage written o ≡ false → taken ≤ n → written ≤ o → Goes taken n written o
goes taken n stage written o going k m =
    record { more = input-left taken n stage written o going k; roomy = room-left taken n stage written o going m }

pub loop-scanned-init : goal.loop-scanned-init
unfolding fed
loop-scanned-init c = (refl, refl, refl, omega arith, omega arith, refl)

pub is_stopped-requires : goal.is_stopped-requires
is_stopped-requires c = c.loop-scanned.invariant.4

pub scan-scanned-requires : goal.scan-scanned-requires
scan-scanned-requires c = c.loop-scanned.invariant.3

pub answer-requires : goal.answer-requires
answer-requires c = let l = c.loop-scanned in rw (c.at-out.ensures.end, c.at-out.ensures.bytes) (goes l.taken (length c.args.input.now) l.session.stage l.written (length l.output) (sym c.is_stopped.ensures ∙ c.loop-scanned-test.true) l.invariant.3 l.invariant.4).roomy

pub overflow_add-taken : goal.overflow_add-taken
overflow_add-taken c = omega (arith, c.if-taken-input.true)

pub loop-scanned-smaller-then-taken-input : goal.loop-scanned-smaller-then-taken-input
loop-scanned-smaller-then-taken-input c = let l = c.loop-scanned in let g = goes l.taken (length c.args.input.now) l.session.stage l.written (length l.output) (sym c.is_stopped.ensures ∙ c.loop-scanned-test.true) l.invariant.3 l.invariant.4 in omega (arith, c.scan-scanned.ensures.0, c.if-taken-input.true, g.more)

pub loop-scanned-preserved-then-taken-input : goal.loop-scanned-preserved-then-taken-input
loop-scanned-preserved-then-taken-input c =
    let l = c.loop-scanned in
    let a = c.args in
    let g = goes l.taken (length c.args.input.now) l.session.stage l.written (length l.output) (sym c.is_stopped.ensures ∙ c.loop-scanned-test.true) l.invariant.3 l.invariant.4 in
    let s = c.scan-scanned in
    let before : Fed = record { runner = record { session = l.session; reader = l.reader }; taken = l.taken; written = l.written } in
    let k = c.if-taken-input.true in
    let f = c.finish-read in
    let out = c.at-out.ensures in
    let r = c.answer in
    let text = r.ensures.said.text in
    let room = rw out.bytes at text.room in
    let last = c.output-1.given.1.1 (sym (text.buffer ∙ out.same_reference)) in
    let start = machine a.runner a.handles.now a.sizes.now [] in
    let line = turn-line start a.input.now before l.handles l.sizes l.output g.more l.invariant.5 s.result s.ensures.0 s.ensures.1 k f.result f.ensures _ _ _ c.at-out.result r.new.out out.end out.bytes r.ensures in (
      r.auto.handles ∙ l.invariant.0,
      r.auto.sizes ∙ l.invariant.1,
      rw last (room ∙ l.invariant.2),
      omega (arith, k),
      rw last (omega (arith, g.roomy, text.count, text.short, out.end, room, c.end-written.ensures)),
      rw (c.begin-reader.ensures, c.end-written.ensures, last) line,
    )

pub loop-scanned-smaller : goal.loop-scanned-smaller
loop-scanned-smaller c = let l = c.loop-scanned in let g = goes l.taken (length c.args.input.now) l.session.stage l.written (length l.output) (sym c.is_stopped.ensures ∙ c.loop-scanned-test.true) l.invariant.3 l.invariant.4 in omega (arith, c.if-taken-input.false, g.more)

pub loop-scanned-preserved : goal.loop-scanned-preserved
loop-scanned-preserved c =
    let l = c.loop-scanned in
    let a = c.args in
    let g = goes l.taken (length c.args.input.now) l.session.stage l.written (length l.output) (sym c.is_stopped.ensures ∙ c.loop-scanned-test.true) l.invariant.3 l.invariant.4 in
    let s = c.scan-scanned in
    let before : Fed = record { runner = record { session = l.session; reader = l.reader }; taken = l.taken; written = l.written } in
    let start = machine a.runner a.handles.now a.sizes.now [] in
    let w = line-within (drop l.taken a.input.now) in
    let d = length-drop l.taken a.input.now in
    let rest = turn_end start a.input.now before l.handles l.sizes l.output g.more l.invariant.5 s.result s.ensures.0 s.ensures.1 in
    (l.invariant.0, l.invariant.1, l.invariant.2, omega (arith, s.ensures.0, g.more, w, d), l.invariant.4, rest)

pub returns-clause-follows : goal.returns-clause-follows
returns-clause-follows c =
    let l = c.loop-scanned in
    let t = c.is_stopped in
    l.invariant.5

pub returns-clause-taken_in_bounds : goal.returns-clause-taken_in_bounds
returns-clause-taken_in_bounds c =
    let l = c.loop-scanned in
    let t = c.is_stopped in
    (l.invariant.3, l.invariant.4)

pub returns-clause-output_after : goal.returns-clause-output_after
returns-clause-output_after c =
    let l = c.loop-scanned in
    let t = c.is_stopped in
    sym t.ensures ∙ c.loop-scanned-test.false
