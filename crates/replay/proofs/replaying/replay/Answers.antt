-- `replay`: 11, 12 or 13 where the reading refuses the log.
use mathlib.Core.Path.{refl, sym}
use Rattle.replay.proofs.Contained.{bad-log}
use Rattle.replay.proofs.replaying.replay.Goals as goal

pub replay_whole-requires-clause-log_value : goal.replay_whole-requires-clause-log_value
replay_whole-requires-clause-log_value c = sym c.in-Ok.ensures

pub returns-in-Err-clause-value : goal.returns-in-Err-clause-value
returns-in-Err-clause-value c = let a = c.args in rw (bad-log a.log.now a.handles.now a.sizes.now _ (sym c.in-Err.ensures))

pub returns-in-Err-clause-fact : goal.returns-in-Err-clause-fact
returns-in-Err-clause-fact c =
    let a = c.args in
    let e = bad-log a.log.now a.handles.now a.sizes.now _ (sym c.in-Err.ensures) in rw e (refl, refl)
