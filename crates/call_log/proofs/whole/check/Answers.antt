-- `check` meets its contract.
use mathlib.Core.Path.{◌∙◌, sym}
use native.Mathlib.Omega.{arith}
use Rattle.std.proofs.lemmas.Result.{err_from_is_err_and}
use Rattle.call_log.specs.Whole.{read_whole}
use Rattle.call_log.proofs.Facts.{sound}
use Rattle.call_log.proofs.Opened.{opens}
use Rattle.call_log.proofs.Shape.{refused-shape, whole-shape}
use Rattle.call_log.proofs.whole.check.Goals as goal

pub returns-in_err-settings : goal.returns-in_err-settings
returns-in_err-settings c =
    let p = err_from_is_err_and c.from_residual.result c.from_residual.ensures.1 in rw (p.1, p.2) (refused-shape c.args.log.now c.in_err-settings.ensures)

pub overflow_sub-n : goal.overflow_sub-n
overflow_sub-n c = let s = sound c.args.log.now (opens c.args.log.now c.in_ok-settings.ensures).trailer in omega arith

pub get4-offset-requires : goal.get4-offset-requires
get4-offset-requires c = let s = sound c.args.log.now (opens c.args.log.now c.in_ok-settings.ensures).trailer in omega arith

pub overflow_sub-n-2 : goal.overflow_sub-n-2
overflow_sub-n-2 c = let s = sound c.args.log.now (opens c.args.log.now c.in_ok-settings.ensures).trailer in omega arith

pub get4-count-requires : goal.get4-count-requires
get4-count-requires c = let s = sound c.args.log.now (opens c.args.log.now c.in_ok-settings.ensures).trailer in omega arith

pub any_faulty-fault-requires : goal.any_faulty-fault-requires
any_faulty-fault-requires c = let s = sound c.args.log.now (opens c.args.log.now c.in_ok-settings.ensures).trailer in let o = c.get4-offset.ensures in let n = c.get4-count.ensures in omega arith

pub returns-then-fault : goal.returns-then-fault
unfolding read_whole
returns-then-fault c =
    let o = opens c.args.log.now c.in_ok-settings.ensures in simp (o.trailer, o.settings, ← c.get4-offset.ensures, ← c.get4-count.ensures, ← c.any_faulty-fault.ensures, c.if-fault.true)

pub returns : goal.returns
returns c =
    let l = c.args.log.now in
    let o = opens l c.in_ok-settings.ensures in
    whole-shape l o.trailer o.settings c.get4-offset.ensures c.get4-count.ensures (sym c.any_faulty-fault.ensures ∙ c.if-fault.false)
