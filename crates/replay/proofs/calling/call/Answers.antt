-- `call`: by the record's kind, the step's answer in numbers, and what it leaves.
use borrow.Author.Tests.{eq-eqb, ne_eqb}
use Rattle.replay.proofs.calling.call.Goals as goal
use native.Mathlib.Omega.{arith}
use lib.Dec.{eqb}
use Rattle.ring_words.specs.Words.{state_of}
use Rattle.ring_steps.proofs.Answers.{arrival-low, tick-low}
use Rattle.replay.proofs.Coded.{arrival-called, departure-called, tick-called}

pub by_code-requires : goal.by_code-requires
by_code-requires c =
    let a = c in
    let r = a.args.r in
    let low = arrival-low (state_of a.args.w.now) a.args.handles.now a.args.sizes.now r.clock r.size (eqb r.ecn 1) r.u in
    let e = c.arrive-code.ensures.0 in (omega (arith, low, e), omega (arith, low, e))

pub returns-then-arrives : goal.returns-then-arrives
returns-then-arrives c =
    let a = c in
    let k = c.arrive-code in
    let e = k.ensures in
    arrival-called a.args.w.now a.args.handles.now a.args.sizes.now a.args.r c.by_code.result (eq-eqb _ _ c.if-arrives.true) k.result _ _ _
    e.0 e.1 e.2 e.3 c.by_code.ensures

pub returns-then-departs : goal.returns-then-departs
returns-then-departs c =
    let a = c in
    let k = c.depart-word in
    departure-called a.args.w.now a.args.handles.now a.args.sizes.now a.args.r c.by_code-then-departs.result (ne_eqb _ _ c.if-arrives.false) (eq-eqb _ _ c.if-departs.true) k.result _
    k.ensures.0 k.ensures.1 c.by_code-then-departs.ensures

pub by_code-requires-2 : goal.by_code-requires-2
by_code-requires-2 c =
    let a = c in
    let low = tick-low (state_of a.args.w.now) a.args.r.clock in
    let e = c.tick-code.ensures.0 in (omega (arith, low, e), omega arith)

pub returns : goal.returns
returns c =
    let a = c in
    let k = c.tick-code in
    tick-called a.args.w.now a.args.handles.now a.args.sizes.now a.args.r c.by_code-2.result (ne_eqb _ _ c.if-arrives.false) (ne_eqb _ _ c.if-departs.false) k.result _
    k.ensures.0 k.ensures.1 c.by_code-2.ensures
