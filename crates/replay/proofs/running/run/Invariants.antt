use mathlib.Core.Path.{◌≡◌}
use Prim.Native.Nat.{◌+◌, ◌*◌, ◌-◌}
use lib.ListN.{length}
use Rattle.ring_words.specs.Words.{state_of}
use Rattle.call_log.specs.Layout.{records_from}
use Rattle.ring_words.specs.Lent.{lent}
use Rattle.ring_steps.specs.Fitting.{Ready}
use Rattle.replay.specs.Replay.{queue_of, replay_from}
use Rattle.replay.proofs.running.run.Given as goal

abbrev pub invariant-loop-i : goal.invariant-loop-i
invariant-loop-i l =
    (length l.handles ≡ length l.initial.handles)
    × (length l.sizes ≡ length l.initial.sizes)
    × (replay_from 0 (queue_of (state_of l.initial.w) l.initial.handles l.initial.sizes) (records_from l.count l.log l.offset)
    ≡ replay_from l.i (queue_of (state_of l.w) l.handles l.sizes) (records_from (l.count - l.i) l.log (l.offset + 40 * l.i)))
    × Ready (lent l.w l.handles l.sizes) (l.count - l.i)
