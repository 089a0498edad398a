-- `clear`: before place i the flows below it are set.
use mathlib.Core.Path.{refl, ap, ◌∙◌}
use Prim.Native.Nat.{◌+◌, ◌<◌}
use native.Mathlib.Omega.{arith}
use lib.ListN.{length, take}
use Rattle.fq_state.specs.Flow.{empty_flow}
use Rattle.fq_words.specs.Words.{flows_of}
use Rattle.fq_words.proofs.Filled.{filled-all, filled_next}
use Rattle.fq_words.proofs.Words.{length-flows}
use Rattle.fq_words.proofs.making.clear.Goals as goal

pub loop-i-init : goal.loop-i-init
loop-i-init c = refl

pub loop-i-preserved : goal.loop-i-preserved
loop-i-preserved c =
    let l = c.loop-i in
    let a = c.args in
    let fs = flows_of l.flows in
    let inside : l.i < length fs = rw (length-flows 64 l.flows) c.loop-i-test.true in
    ap (take (l.i + 1)) c.set_flow.ensures ∙ filled_next (empty_flow a.allowance) fs l.i inside l.invariant

pub returns : goal.returns
returns c =
    let l = c.loop-i in
    let a = c.args in
    filled-all (empty_flow a.allowance) (flows_of l.flows) l.i 64 (length-flows 64 l.flows) c.loop-i-test.false (omega arith) l.invariant
