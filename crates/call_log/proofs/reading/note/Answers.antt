-- `note` meets its contract.
use native.Mathlib.Omega.{arith}
use Rattle.call_log.specs.Reader.{note_of}
use Rattle.call_log.specs.Answers.{given}
use Rattle.call_log.specs.Layout.{note_in}
use Rattle.call_log.proofs.Facts.{sound}
use Rattle.call_log.proofs.Opened.{opens, refuses}
use Rattle.call_log.proofs.reading.note.Goals as goal

pub overflow_sub-log : goal.overflow_sub-log
overflow_sub-log c = let s = sound c.args.log.now (opens c.args.log.now c.in-Ok.ensures).trailer in omega arith

pub get4-offset-requires : goal.get4-offset-requires
get4-offset-requires c = let s = sound c.args.log.now (opens c.args.log.now c.in-Ok.ensures).trailer in omega arith

pub slice_bounds-result-count : goal.slice_bounds-result-count
slice_bounds-result-count c = let s = sound c.args.log.now (opens c.args.log.now c.in-Ok.ensures).trailer in let o = c.get4-offset.ensures in omega arith

pub slice_bounds-result-start : goal.slice_bounds-result-start
slice_bounds-result-start c = let s = sound c.args.log.now (opens c.args.log.now c.in-Ok.ensures).trailer in let o = c.get4-offset.ensures in omega arith

pub slice_bounds-result-end : goal.slice_bounds-result-end
slice_bounds-result-end c = let s = sound c.args.log.now (opens c.args.log.now c.in-Ok.ensures).trailer in let o = c.get4-offset.ensures in omega arith

pub returns-in-Ok : goal.returns-in-Ok
unfolding note_of
returns-in-Ok c = let o = opens c.args.log.now c.in-Ok.ensures in simp (o.trailer, o.settings, ← c.get4-offset.ensures)

pub returns-in-Err : goal.returns-in-Err
unfolding note_of
returns-in-Err c = rw (← (refuses c.args.log.now (given (note_in c.args.log.now)) c.in-Err.ensures))
