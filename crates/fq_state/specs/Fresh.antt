-- 21: fresh. Each flow's allowance is full; lists are empty, deficits 0, and everything else is 0.
use Rattle.std.specs.Prelude.{Bool, cond, not, [], ◌∷◌, ◌++◌, ℕ, leb, replicate}
use Rattle.laws.specs.Tests.{all}
use Rattle.units.specs.Kinds.{bytes, micros}
use Rattle.pie.specs.Constants.{full_allowance, latest}
use Rattle.schedule.specs.Ring.{empty_lists, schedule_of}
use Rattle.schedule.specs.TwoLists.{zero_deficit}
use Rattle.store.specs.Fresh.{fresh_store}
use Rattle.fq_state.specs.Flow.{empty_flow}
use Rattle.fq_state.specs.State.{State}
use Rattle.fq_state.specs.WellFormed.{settings_conditions}
use Rattle.fq_state.specs.declared.Common.{Common}
use Rattle.fq_state.specs.declared.Settings.{Settings}

abbrev pub settings_of : (target buffer slots salt : ℕ) → Settings
settings_of target buffer slots salt = record { target = micros target; buffer = bytes buffer; slots = slots; salt = salt }

abbrev pub empty_common : Settings → (clock : ℕ) → Common
empty_common settings clock =
    record {
      settings = settings;
      clock = micros clock;
      last = micros clock;
      backlog = record { count = 0; bytes = bytes 0 };
      store = fresh_store;
      verdicts = 0 ∷ 0 ∷ 0 ∷ 0 ∷ 0 ∷ [];
    }

-- 64 flows with this allowance and deficit, none of them listed
abbrev pub empty_state : Settings → (clock allowance deficit : ℕ) → State
empty_state settings clock allowance deficit =
    record {
      common = empty_common settings clock;
      schedule = schedule_of empty_lists (replicate 64 0) (replicate 64 deficit);
      flows = replicate 64 (empty_flow allowance);
    }

abbrev pub fresh_state : Settings → (clock : ℕ) → State
fresh_state settings clock = empty_state settings clock full_allowance zero_deficit

-- a refused fresh returns a record that is all zero
abbrev pub zero_state : State
zero_state = empty_state (settings_of 0 0 0 0) 0 0 0

-- 1: target, buffer, slots or salt out of range, or a start clock above 2^48
abbrev pub setup_refused : Settings → (clock : ℕ) → Bool
setup_refused settings clock = not (all (settings_conditions settings ++ leb clock latest ∷ []))

unfoldable pub fresh : Settings → (clock : ℕ) → State
fresh settings clock = cond (setup_refused settings clock) zero_state (fresh_state settings clock)

-- the number of the refusal, and 0 where there is none
abbrev pub fresh_refusal : Settings → (clock : ℕ) → ℕ
fresh_refusal settings clock = cond (setup_refused settings clock) 1 0
