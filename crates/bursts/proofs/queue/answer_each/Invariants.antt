-- After i calls the burst of i calls is done, and the queue can be asked the others.
use Rattle.bursts.proofs.queue.answer_each.Given as goal
use mathlib.Core.Path.{◌≡◌}
use Prim.Native.Nat.{◌-◌}
use lib.ListN.{length}
use Rattle.bursts.specs.Burst.{burst, done}

abbrev pub invariant-loop-i : goal.invariant-loop-i
invariant-loop-i g l = record {
  long : length l.answers ≡ length l.initial.answers;
  so_far : done g.Q.Queue.kind (g.Q.Queue.state l.queue) l.answers ≡ burst g.Q.Queue.kind (g.Q.Queue.state l.initial.queue) l.calls l.initial.answers l.i;
  ready : g.Q.Queue.ready l.queue (length l.initial.answers - l.i);
  names : g.Q.Queue.names l.queue ≡ g.Q.Queue.names l.initial.queue;
}
