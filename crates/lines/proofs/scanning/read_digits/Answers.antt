-- `read_digits`: each turn is the reader's own step.
use mathlib.Core.Path.{◌≡◌}
use Prim.Native.Nat.{◌<◌}
use native.Mathlib.Omega.{arith}
use lib.ListN.{get_or, length}
use Rattle.lines.proofs.Bytes.{clear-digit}
use Rattle.lines.proofs.LineEnds.{along-byte, along-here, along_then, digit-pushed}
use Rattle.lines.proofs.scanning.read_digits.Goals as goal

pub loop-at-init : goal.loop-at-init
loop-at-init c = (c.requires.1, along-here c.args.input.now c.args.begun c.args.from c.requires.0)

pub returns-then-not-clear : goal.returns-then-not-clear
returns-then-not-clear c = c.loop-at.invariant.1

pub overflow_mul-reader : goal.overflow_mul-reader
overflow_mul-reader c =
    let l = c.loop-at in
    let input = c.args.input.now in
    let t = c.if-not-clear.false in
    let byte = get_or input l.at 0 in
    let f = clear-digit byte l.reader.value t in
    omega (arith, f.small)

pub overflow_cast-reader : goal.overflow_cast-reader
overflow_cast-reader c =
    let l = c.loop-at in
    let input = c.args.input.now in
    let t = c.if-not-clear.false in
    let byte = get_or input l.at 0 in
    let f = clear-digit byte l.reader.value t in
    omega (arith, f.low, f.high)

pub overflow_sub-reader : goal.overflow_sub-reader
overflow_sub-reader c =
    let l = c.loop-at in
    let input = c.args.input.now in
    let t = c.if-not-clear.false in
    let byte = get_or input l.at 0 in
    let f = clear-digit byte l.reader.value t in
    omega (arith, f.low)

pub overflow_add-reader : goal.overflow_add-reader
overflow_add-reader c =
    let l = c.loop-at in
    let input = c.args.input.now in
    let t = c.if-not-clear.false in
    let byte = get_or input l.at 0 in
    let f = clear-digit byte l.reader.value t in
    omega (arith, f.small, f.high)

pub loop-at-preserved : goal.loop-at-preserved
loop-at-preserved c =
    let l = c.loop-at in
    let input = c.args.input.now in
    let t = c.if-not-clear.false in
    let byte = get_or input l.at 0 in
    let f = clear-digit byte l.reader.value t in
    let below : l.at < length input = omega arith in
    let byte-read = rw (digit-pushed l.reader byte l.invariant.0 f.digit f.high f.small) at (along-byte input l.reader l.at below (λ e. omega (arith, f.low, e))) in
    (l.invariant.0, along_then input c.args.begun c.args.from _ _ l.invariant.1 byte-read)

pub returns : goal.returns
returns c =
    let l = c.loop-at in
    let whole : l.at ≡ length c.args.input.now = omega (arith, c.requires.0) in
    rw whole at l.invariant.1
