-- A fresh state (document 01, 'The state record').
use Rattle.std.specs.Prelude.{Bool, false, cond, not, [], ◌∷◌, ℕ}
use Rattle.units.specs.Kinds.{bytes, micros}
use Rattle.pie.specs.Start.{restarted, unstarted}
use Rattle.pie.specs.declared.Pie.{Pie}
use Rattle.ring.specs.Activity.{is_calm}
use Rattle.ring.specs.Answer.{Reply}
use Rattle.refusals.specs.Answer.{made, refused}
use Rattle.ring.specs.Refusals.{settings_refused}
use Rattle.ring.specs.declared.Settings.{Settings}
use Rattle.ring.specs.declared.State.{State}

abbrev pub settings_of : (target buffer slots profile : ℕ) → Settings
settings_of target buffer slots profile = record { target = micros target; buffer = bytes buffer; slots = slots; profile = profile }

-- nothing queued and nothing counted
abbrev pub empty_state : Settings → (clock : ℕ) → Pie → (active : Bool) → State
empty_state settings clock pie active =
    record {
      settings = settings;
      clock = micros clock;
      last = micros clock;
      pie = pie;
      backlog = record { count = 0; bytes = bytes 0 };
      first = 0;
      verdicts = 0 ∷ 0 ∷ 0 ∷ 0 ∷ 0 ∷ [];
      active = active;
    }

-- last tick equals the clock, allowance is full, everything else is 0; a plain queue is active, a calm one is not (Q-12)
abbrev pub fresh_state : Settings → (clock : ℕ) → State
fresh_state settings clock = empty_state settings clock restarted (not (is_calm settings))

-- the all-zero record
abbrev pub zero_state : State
zero_state = empty_state (settings_of 0 0 0 0) 0 (unstarted 0) false

unfoldable pub fresh : Settings → (clock : ℕ) → Reply
fresh settings clock =
    cond (settings_refused settings clock)
    (record { answer = refused 1; state = zero_state })
    (record { answer = made; state = fresh_state settings clock })
