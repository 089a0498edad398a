-- `finish`: nothing without room, nothing for an empty line, else the line's answer.
use mathlib.Core.Path.{refl, sym, ap, ◌∙◌}
use native.Mathlib.Omega.{arith}
use borrow.Author.Tests.{le-leb, lt-leb}
use lib.ListN.{length}
use Rattle.lines.specs.Reader.{begun}
use Rattle.script.specs.Feeding.{end_fed}
use Rattle.script.specs.Script.{ScriptRun}
use Rattle.script.proofs.Turns.{answered-is}
use Rattle.script.proofs.feeding.finish.Goals as goal

pub returns-then-output-lt-ROOM-clause-output_after : goal.returns-then-output-lt-ROOM-clause-output_after
returns-then-output-lt-ROOM-clause-output_after c = rw (lt-leb 128 (length c.args.output.now) c.if-output-lt-ROOM.true)

pub returns-then-is_empty-clause-output_after : goal.returns-then-is_empty-clause-output_after
unfolding end_fed
returns-then-is_empty-clause-output_after c =
    rw (le-leb 128 (length c.args.output.now) c.if-output-lt-ROOM.false, ← c.is_empty.ensures, c.if-is_empty.true)

pub returns-clause-output_after : goal.returns-clause-output_after
unfolding end_fed
returns-clause-output_after c =
    let a = c.args in
    let out = c.at-out.ensures in
    let r = c.answer in
    let last = c.output-1.given.1.1 (sym (r.ensures.said.text.buffer ∙ out.same_reference)) in
    let done = answered-is a.runner.session _ a.handles.now a.sizes.now c.finish-read.result _ _ c.at-out.result r.new.out r.ensures in
    let line = rw (c.finish-read.ensures, out.end) at done in
    rw (c.begin.ensures, c.end.ensures, last, le-leb 128 (length a.output.now) c.if-output-lt-ROOM.false, ← c.is_empty.ensures, c.if-is_empty.false)
    (ap (λ (run : ScriptRun). record { run = run; reader = begun }) (sym line))

pub returns-clause-taken_value : goal.returns-clause-taken_value
returns-clause-taken_value c =
    let out = c.at-out.ensures in
    let text = c.answer.ensures.said.text in
    let room = rw out.bytes at text.room in
    (refl, omega (arith, c.if-output-lt-ROOM.false, text.count, text.short, out.end, room, c.end.ensures))
