-- When a queue is active (RFC 8033, 5.3; Q-12). A plain queue always is; a calm one is while it is loaded.
use Rattle.std.specs.Prelude.{Bool, cond, not, ◌&&◌, ◌||◌, ◌*◌, eqb, ltb}
use Rattle.pie.specs.Start.{restarted}
use Rattle.pie.specs.Update.{refills}
use Rattle.pie.specs.declared.Pie.{Pie}
use Rattle.ring.specs.declared.Settings.{Settings}
use Rattle.ring.specs.declared.State.{State}

-- the profile: 0 is plain, 1 is calm
abbrev pub is_calm : Settings → Bool
is_calm settings = eqb settings.profile 1

-- three times the queued bytes are above the buffer
abbrev pub above_third : State → Bool
above_third s = ltb s.settings.buffer.0 (3 * s.backlog.bytes.0)

-- an accepted arrival turns the queue active where it finds it inactive and so full
abbrev pub turns_active : State → Bool
turns_active s = not s.active && above_third s

-- the state in which an arrival's rules begin: a queue that turns active begins the algorithm anew
unfoldable pub begun : State → State
begun s =
    record {
      settings = s.settings;
      clock = s.clock;
      last = s.last;
      pie = cond (turns_active s) restarted s.pie;
      backlog = s.backlog;
      first = s.first;
      verdicts = s.verdicts;
      active = s.active || turns_active s;
    }

-- a tick that leaves this turns an active queue inactive: the profile is calm, the tick meets rule 8, and the queue is not so full; the
-- old delay that it leaves is its delay (rule 9)
abbrev pub turns_inactive : State → (after : Pie) → Bool
turns_inactive s after =
    is_calm s.settings
    && refills after.prob.0 after.old.0 s.pie.old.0 s.settings.target.0
    && not (above_third s)
