-- `trailer_refused` meets its contract.
use lib.ListN.{length}
use native.Mathlib.Omega.{arith}
use borrow.Author.Tests.{le-leb, lt-leb}
use Rattle.call_log.specs.Reader.{trailer_refused}
use Rattle.call_log.proofs.reading.trailer_refused.Goals as goal

pub returns-then-short : goal.returns-then-short
unfolding trailer_refused
returns-then-short c = let n = length c.args.log.now in rw (lt-leb 48 n c.if-short.true)

pub overflow_sub-n : goal.overflow_sub-n
overflow_sub-n c = omega arith

pub get4-offset-requires : goal.get4-offset-requires
get4-offset-requires c = omega arith

pub overflow_sub-n-2 : goal.overflow_sub-n-2
overflow_sub-n-2 c = omega arith

pub get4-count-requires : goal.get4-count-requires
get4-count-requires c = omega arith

pub overflow_sub-n-3 : goal.overflow_sub-n-3
overflow_sub-n-3 c = omega arith

pub get4-size-requires : goal.get4-size-requires
get4-size-requires c = omega arith

pub overflow_sub-n-4 : goal.overflow_sub-n-4
overflow_sub-n-4 c = omega arith

pub get4-letters-requires : goal.get4-letters-requires
get4-letters-requires c = omega arith

pub returns : goal.returns
unfolding trailer_refused
returns c =
    let n = length c.args.log.now in
    simp (le-leb 48 n c.if-short.false, ← c.get4-offset.ensures, ← c.get4-count.ensures, ← c.get4-size.ensures, ← c.get4-letters.ensures)
