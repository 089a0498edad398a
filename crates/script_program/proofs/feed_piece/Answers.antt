-- `feed_piece`: the bytes before `at` are fed, and each turn feeds more behind them.
use mathlib.Core.Path.{refl, ◌∙◌}
use Prim.Native.Nat.{◌-◌, ◌≤◌}
use native.Mathlib.Omega.{arith}
use lib.ListN.{drop, length, length-drop}
use lib.Seq.{take_all}
use Rattle.script_program.proofs.Onward.{feeds-none, feeds-then, some-then}
use Rattle.script_program.proofs.feed_piece.Goals as goal

pub loop-at-init : goal.loop-at-init
loop-at-init g c = (refl, refl, refl, omega arith, feeds-none _ _ _ c.args.input.now)

pub returns-in_default-clause-fed : goal.returns-in_default-clause-fed
returns-in_default-clause-fed g c =
    let l = c.loop-at in
    let a = c.args in
    let input = a.input.now in
    let rest : length (drop l.at input) ≤ length input - l.at = simp length-drop (omega arith) in
    let more = rw (take_all (length input - l.at) (drop l.at input) rest) at c.feed_some.ensures.fed in
    some-then a.runner.now l.runner _ a.handles.now a.sizes.now l.handles l.sizes _ _ input l.at l.invariant.4 more

pub returns-then-taken-eq0-clause-fed : goal.returns-then-taken-eq0-clause-fed
returns-then-taken-eq0-clause-fed g c =
    let l = c.loop-at in
    let a = c.args in
    let input = a.input.now in
    let rest : length (drop l.at input) ≤ length input - l.at = simp length-drop (omega arith) in
    let more = rw (take_all (length input - l.at) (drop l.at input) rest) at c.feed_some.ensures.fed in
    some-then a.runner.now l.runner _ a.handles.now a.sizes.now l.handles l.sizes _ _ input l.at l.invariant.4 more

pub loop-at-preserved : goal.loop-at-preserved
loop-at-preserved g c =
    let l = c.loop-at in
    let f = c.feed_some in
    let a = c.args in
    let input = a.input.now in
    let rest : length (drop l.at input) ≤ length input - l.at = simp length-drop (omega arith) in
    let more = rw (take_all (length input - l.at) (drop l.at input) rest) at c.in-Some.ensures.feeds in
    let all = feeds-then a.runner.now l.runner _ a.handles.now a.sizes.now l.handles l.sizes _ _ input l.at c.in-Some.taken l.invariant.4 more.1 in
    let short = simp length-drop at more.0 in
    (f.auto.handles ∙ l.invariant.0, f.auto.sizes ∙ l.invariant.1, f.auto.output ∙ l.invariant.2, omega (arith, short), all)
