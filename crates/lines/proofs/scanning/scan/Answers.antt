-- `scan`: the reader goes along the line up to its end.
use mathlib.Core.Path.{sym, ◌∙◌}
use native.Mathlib.Omega.{arith}
use Rattle.lines.proofs.LineEnds.{along-byte, along-here, along_then, end-at-end, end-at-newline, read-at-end, read-at-newline}
use Rattle.lines.proofs.scanning.scan.Goals as goal

pub loop-at-init : goal.loop-at-init
loop-at-init c = along-here c.args.input.now c.args.begun c.args.from c.requires

pub returns-then-byte-eq10 : goal.returns-then-byte-eq10
returns-then-byte-eq10 c =
    let l = c.loop-at in
    let input = c.args.input.now in
    let e = end-at-newline input l.at l.reader (omega arith) c.if-byte-eq10.true in
    (omega (arith, l.invariant.ends), sym (l.invariant.reads ∙ read-at-newline input l.at l.reader (omega arith) c.if-byte-eq10.true))

pub push-requires : goal.push-requires
push-requires c = tt

pub loop-at-smaller : goal.loop-at-smaller
loop-at-smaller c = omega (arith, c.read_field-read.ensures.forward, c.read_field-read.ensures.within)

pub loop-at-preserved : goal.loop-at-preserved
loop-at-preserved c =
    let l = c.loop-at in
    let a = c.args in
    let p = c.push in
    let byte-read = along-byte a.input.now l.reader l.at (omega arith) c.if-byte-eq10.false in
    along_then a.input.now a.begun a.from _ _ l.invariant (along_then a.input.now l.reader l.at _ _ byte-read (rw p.ensures at c.read_field-read.ensures))

pub returns : goal.returns
returns c =
    let l = c.loop-at in
    let input = c.args.input.now in
    let e = end-at-end input l.at l.reader (omega arith) in
    (omega (arith, l.invariant.ends), sym (l.invariant.reads ∙ read-at-end input l.at l.reader (omega arith)))
