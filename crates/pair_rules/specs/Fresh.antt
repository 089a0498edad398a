-- 14: fresh is one call for all three records.
use Rattle.std.specs.Prelude.{Bool, cond, not, List, [], ◌∷◌, ◌++◌, ℕ, leb}
use Rattle.laws.specs.Tests.{all}
use Rattle.units.specs.Kinds.{bytes, micros, none, prob}
use Rattle.pie.specs.Constants.{full_allowance, latest}
use Rattle.pie.specs.DepartureRate.{resting}
use Rattle.refusals.specs.Answer.{made, refused}
use Rattle.store.specs.Fresh.{fresh_ends, fresh_store}
use Rattle.pair_rules.specs.Answer.{Reply}
use Rattle.pair_rules.specs.WellFormed.{settings_conditions, slots_conditions}
use Rattle.pair_rules.specs.declared.Pair.{Pair}
use Rattle.pair_rules.specs.declared.Settings.{Settings}
use Rattle.pair_rules.specs.declared.Setup.{Setup}
use Rattle.pair_rules.specs.declared.Shared.{Shared}
use Rattle.pair_rules.specs.declared.State.{State}

abbrev pub settings_of : (target buffer : ℕ) → Settings
settings_of target buffer = record { target = micros target; buffer = bytes buffer }

-- what fresh is told of a queue
abbrev pub setup_of : (target buffer reserve clock : ℕ) → Setup
setup_of target buffer reserve clock = record { settings = settings_of target buffer; reserve = reserve; clock = micros clock }

-- no slot was taken
abbrev pub fresh_shared : (slots intercom passengers : ℕ) → Shared
fresh_shared slots intercom passengers =
    record { slots = slots; reserves = record { intercom = intercom; passengers = passengers }; store = fresh_store }

-- nothing queued, nothing counted and nothing measured
abbrev pub empty_state : Settings → (clock allowance : ℕ) → State
empty_state settings clock allowance =
    record {
      settings = settings;
      clock = micros clock;
      last = micros clock;
      pie = record { prob = prob none; old = micros 0; allowance = micros allowance; accumulated = prob none; rate = resting 0 };
      backlog = record { count = 0; bytes = bytes 0 };
      ends = fresh_ends;
      verdicts = 0 ∷ 0 ∷ 0 ∷ 0 ∷ 0 ∷ [];
    }

-- each state is document 01's fresh one
abbrev pub fresh_pair : (slots : ℕ) (intercom passengers : Setup) → Pair
fresh_pair slots intercom passengers =
    record {
      shared = fresh_shared slots intercom.reserve passengers.reserve;
      intercom = empty_state intercom.settings intercom.clock.0 full_allowance;
      passengers = empty_state passengers.settings passengers.clock.0 full_allowance;
    }

-- all three records all zero
abbrev pub zero_pair : Pair
zero_pair =
    record {
      shared = fresh_shared 0 0 0;
      intercom = empty_state (settings_of 0 0) 0 0;
      passengers = empty_state (settings_of 0 0) 0 0;
    }

-- 1: slots, a target or a buffer out of range, a start clock above 2^48, or reserves that sum above the slots
abbrev pub setup_conditions : Setup → List Bool
setup_conditions s = settings_conditions s.settings ++ leb s.clock.0 latest ∷ []

abbrev pub setup_refused : (slots : ℕ) (intercom passengers : Setup) → Bool
setup_refused slots intercom passengers =
    not (all (
    slots_conditions (fresh_shared slots intercom.reserve passengers.reserve)
    ++ setup_conditions intercom
    ++ setup_conditions passengers
    ))

unfoldable pub fresh : (slots : ℕ) (intercom passengers : Setup) → Reply
fresh slots intercom passengers =
    cond (setup_refused slots intercom passengers)
    (record { answer = refused 1; pair = zero_pair })
    (record { answer = made; pair = fresh_pair slots intercom passengers })
