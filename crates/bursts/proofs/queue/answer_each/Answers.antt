-- `answer_each`: each call is one step of the burst.
use Rattle.bursts.proofs.queue.answer_each.Goals as goal
use mathlib.Core.Path.{◌≡◌, refl, ◌∙◌}
use Prim.Native.Nat.{suc, ◌+◌, ◌-◌}
use native.Mathlib.Omega.{arith}
use lib.ListN.{length, length-set}
use Rattle.bursts.specs.Burst.{burst}
use Rattle.bursts.proofs.Steps.{one_more}

pub loop-i-init : goal.loop-i-init
unfolding burst
loop-i-init g c =
    let n = length c.args.answers.now in
    let all : n - 0 ≡ n = omega arith in
    record { long = refl; so_far = refl; ready = rw all c.requires.ready; names = refl }

pub answer-requires-clause-ready : goal.answer-requires-clause-ready
answer-requires-clause-ready g c =
    let l = c.loop-i in
    let n = length c.args.answers.now in
    let one : n - l.i ≡ suc (n - (l.i + 1)) = omega (arith, c.loop-i-test.true) in (n - (l.i + 1), rw one at l.invariant.ready)

pub loop-i-preserved : goal.loop-i-preserved
loop-i-preserved g c =
    let k = g.Q.Queue.kind in
    let l = c.loop-i in
    let e = c.answer.ensures in
    let n = length c.args.answers.now in
    let one : n - l.i ≡ suc (n - (l.i + 1)) = omega (arith, c.loop-i-test.true) in record {
      long = length-set l.answers l.i c.answer.result ∙ l.invariant.long;
      so_far = one_more k _ c.args.calls.now c.args.answers.now l.i (g.Q.Queue.state l.queue) l.answers c.answer.result _ l.invariant.so_far (e.value, e.after);
      ready = e.ready_after (n - (l.i + 1)) (rw one at l.invariant.ready);
      names = e.names ∙ l.invariant.names;
    }
