-- `read_at` meets its contract.
use native.Mathlib.Omega.{arith}
use borrow.Author.Tests.{le-leb, lt-leb}
use Rattle.std.proofs.lemmas.Result.{err_from_is_err_and}
use Rattle.call_log.specs.Reader.{read_at}
use Rattle.call_log.proofs.Facts.{sound}
use Rattle.call_log.proofs.Opened.{opens, refuses}
use Rattle.call_log.proofs.reading.read_at.Goals as goal

pub returns-in_err-settings : goal.returns-in_err-settings
unfolding read_at
returns-in_err-settings c =
    let p = err_from_is_err_and c.from_residual.result c.from_residual.ensures.1 in rw (p.1, p.2) (refuses c.args.log.now _ c.in_err-settings.ensures)

pub overflow_sub-n : goal.overflow_sub-n
overflow_sub-n c = let s = sound c.args.log.now (opens c.args.log.now c.in_ok-settings.ensures).trailer in omega arith

pub get4-offset-requires : goal.get4-offset-requires
get4-offset-requires c = let s = sound c.args.log.now (opens c.args.log.now c.in_ok-settings.ensures).trailer in omega arith

pub overflow_sub-n-2 : goal.overflow_sub-n-2
overflow_sub-n-2 c = let s = sound c.args.log.now (opens c.args.log.now c.in_ok-settings.ensures).trailer in omega arith

pub get4-count-requires : goal.get4-count-requires
get4-count-requires c = let s = sound c.args.log.now (opens c.args.log.now c.in_ok-settings.ensures).trailer in omega arith

pub overflow_mul-place : goal.overflow_mul-place
overflow_mul-place c = let s = sound c.args.log.now (opens c.args.log.now c.in_ok-settings.ensures).trailer in let o = c.get4-offset.ensures in let n = c.get4-count.ensures in omega arith

pub overflow_add-offset : goal.overflow_add-offset
overflow_add-offset c = let s = sound c.args.log.now (opens c.args.log.now c.in_ok-settings.ensures).trailer in let o = c.get4-offset.ensures in let n = c.get4-count.ensures in omega arith

pub get-record-requires : goal.get-record-requires
get-record-requires c = let s = sound c.args.log.now (opens c.args.log.now c.in_ok-settings.ensures).trailer in let o = c.get4-offset.ensures in let n = c.get4-count.ensures in omega arith

pub overflow_add-result : goal.overflow_add-result
overflow_add-result c = let s = sound c.args.log.now (opens c.args.log.now c.in_ok-settings.ensures).trailer in let o = c.get4-offset.ensures in let n = c.get4-count.ensures in omega arith

pub returns-then-past : goal.returns-then-past
unfolding read_at
returns-then-past c = let o = opens c.args.log.now c.in_ok-settings.ensures in simp (o.trailer, o.settings, ← c.get4-count.ensures, le-leb _ _ c.if-past.true)

pub returns-then-fault : goal.returns-then-fault
unfolding read_at
returns-then-fault c =
    let o = opens c.args.log.now c.in_ok-settings.ensures in simp (o.trailer, o.settings, ← c.get4-offset.ensures, ← c.get4-count.ensures, lt-leb _ _ c.if-past.false, ← c.get-record.ensures, ← c.faulty-fault.ensures, c.if-fault.true)

pub returns : goal.returns
unfolding read_at
returns c =
    let o = opens c.args.log.now c.in_ok-settings.ensures in simp (o.trailer, o.settings, ← c.get4-offset.ensures, ← c.get4-count.ensures, lt-leb _ _ c.if-past.false, ← c.get-record.ensures, ← c.faulty-fault.ensures, c.if-fault.false)
