-- `obikuteru_replay`: the code and the words of what the replay handed back, and the tables as it left them.
use Rattle.replay.specs.Replay.{replay}
use Rattle.replay.proofs.Numbers.{numbered, replayed, unreplayed}
use Rattle.replay.proofs.obikuteru_replay.Goals as goal

pub returns-in-Ok : goal.returns-in-Ok
returns-in-Ok c =
    let s = c.args in
    let a = replay s.log.now s.handles.now s.sizes.now in
    let f = replayed a (numbered s.log.now s.handles.now s.sizes.now) c.in-Ok.r c.in-Ok.ensures.value c.code.ensures c.words.ensures in
    (f.0, f.1, c.in-Ok.ensures.fact.0, c.in-Ok.ensures.fact.1)

pub returns-in-Err : goal.returns-in-Err
returns-in-Err c =
    let s = c.args in
    let a = replay s.log.now s.handles.now s.sizes.now in
    let f = unreplayed a (numbered s.log.now s.handles.now s.sizes.now) c.in-Err.refusal c.in-Err.ensures.value c.number.ensures.0 in
    (f.0, f.1, c.in-Err.ensures.fact.0, c.in-Err.ensures.fact.1)
