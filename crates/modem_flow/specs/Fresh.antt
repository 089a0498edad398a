-- A fresh flow (docs/DOCSIS-PIE.md, parts 2 and 3).
use Rattle.std.specs.Prelude.{cond, ℕ}
use Rattle.units.specs.Kinds.{bytes, micros, none, prob, rate}
use Rattle.refusals.specs.Answer.{made, refused}
use Rattle.docsis_pie.specs.Constants.{inactive}
use Rattle.docsis_pie.specs.Update.{phase}
use Rattle.modem_flow.specs.Answer.{Reply}
use Rattle.modem_flow.specs.Refusals.{settings_refused}
use Rattle.modem_flow.specs.declared.Settings.{Settings}
use Rattle.modem_flow.specs.declared.State.{State}

abbrev pub settings_of : (target buffer slots peak sustained : ℕ) → Settings
settings_of target buffer slots peak sustained =
    record { target = micros target; buffer = bytes buffer; slots = slots; peak = rate peak; sustained = rate sustained }

-- last tick equals the clock, everything that is not given is 0
abbrev pub fresh_state : Settings → (clock : ℕ) → State
fresh_state settings clock =
    record {
      settings = settings;
      clock = micros clock;
      last = micros clock;
      pie = record { prob = prob none; accumulated = prob none; old = micros 0; allowance = micros 0; phase = phase inactive 0 };
      backlog = record { count = 0; bytes = bytes 0 };
      first = 0;
    }

-- the all-zero record
abbrev pub zero_state : State
zero_state = fresh_state (settings_of 0 0 0 0 0) 0

-- refusal 1, or a fresh flow
unfoldable pub fresh : Settings → (clock : ℕ) → Reply
fresh settings clock =
    cond (settings_refused settings clock)
    (record { answer = refused 1; state = zero_state })
    (record { answer = made; state = fresh_state settings clock })
