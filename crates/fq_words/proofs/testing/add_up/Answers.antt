-- `add_up`: before place i the flows below it fit and are added up.
use mathlib.Core.Path.{sym, ◌∙◌}
use native.Mathlib.Omega.{arith}
use Rattle.fq_words.specs.Words.{flows_of}
use Rattle.fq_words.proofs.AddedUp.{bounds, broken, ended, next, start}
use Rattle.fq_words.proofs.Words.{length-flows}
use Rattle.fq_words.proofs.testing.add_up.Goals as goal

pub loop-i-init : goal.loop-i-init
loop-i-init c =
    let a = c.args in start a.c (flows_of a.flows.now) a.counts.now c.told-counts

pub returns-then-not-fine : goal.returns-then-not-fine
returns-then-not-fine c =
    let a = c.args in
    let l = c.loop-i in
    broken a.c (flows_of a.flows.now) (length-flows 64 a.flows.now) l.counts l.count l.bytes l.i l.invariant
    c.loop-i-test.true c.flow_at-f.result c.flow_at-f.ensures
    (sym c.fits-fine.ensures ∙ c.if-not-fine.true)

pub overflow_cast-counts : goal.overflow_cast-counts
overflow_cast-counts c =
    let k = bounds c.args.c c.flow_at-f.result c.requires (sym c.fits-fine.ensures ∙ c.if-not-fine.false) in
    omega (arith, k.0)

pub overflow_add-count : goal.overflow_add-count
overflow_add-count c =
    let k = bounds c.args.c c.flow_at-f.result c.requires (sym c.fits-fine.ensures ∙ c.if-not-fine.false) in
    omega (arith, k.0, c.loop-i.invariant.count-le, c.loop-i-test.true)

pub overflow_add-bytes : goal.overflow_add-bytes
overflow_add-bytes c =
    let k = bounds c.args.c c.flow_at-f.result c.requires (sym c.fits-fine.ensures ∙ c.if-not-fine.false) in
    omega (arith, k.1, c.loop-i.invariant.bytes_le, c.loop-i-test.true)

pub loop-i-preserved : goal.loop-i-preserved
loop-i-preserved c =
    let a = c.args in
    let l = c.loop-i in
    next a.c (flows_of a.flows.now) (length-flows 64 a.flows.now) l.counts l.count l.bytes l.i l.invariant
    c.loop-i-test.true c.flow_at-f.result c.flow_at-f.ensures c.requires
    (sym c.fits-fine.ensures ∙ c.if-not-fine.false)

pub returns : goal.returns
returns c =
    ended c.args.c (flows_of c.args.flows.now) (length-flows 64 c.args.flows.now) c.loop-i.counts c.loop-i.count c.loop-i.bytes c.loop-i.i
    c.loop-i.invariant c.loop-i-test.false
