-- The refusals (document 01, 'Refusal numbers'): the test of each number. Which number is given is first_refusal (crate refusals).
use Rattle.std.specs.Prelude.{Bool, not, ◌&&◌, ◌||◌, ℕ, ◌+◌, ltb, leb, eqb}
use Rattle.laws.specs.Tests.{all}
use Rattle.pie.specs.Constants.{latest, most_verdicts, period}
use Rattle.pie.specs.Verdicts.{total}
use Rattle.ring.specs.State.{settings_conditions, well_formed}
use Rattle.ring.specs.declared.Settings.{Settings}
use Rattle.ring.specs.declared.State.{State}

-- 1: target, buffer, slots or profile out of range, or start clock above 2^48
abbrev pub settings_refused : Settings → (clock : ℕ) → Bool
settings_refused s clock = not (all (settings_conditions s) && leb clock latest)

-- 2: state not well formed
abbrev pub state_refused : State → Bool
state_refused s = not (well_formed s)

-- 3: either table's length is not the state's slots
abbrev pub tables_refused : State → (handles_length sizes_length : ℕ) → Bool
tables_refused s handles_length sizes_length = not (eqb handles_length s.settings.slots && eqb sizes_length s.settings.slots)

-- 4: the call's clock is less than the state's, or above 2^48
abbrev pub clock_refused : State → (clock : ℕ) → Bool
clock_refused s clock = ltb clock s.clock.0 || ltb latest clock

-- 5: clock less than last tick + 15,000
abbrev pub too_soon_refused : State → (clock : ℕ) → Bool
too_soon_refused s clock = ltb clock (s.last.0 + period)

-- 6: count is 0
abbrev pub empty_refused : State → Bool
empty_refused s = eqb s.backlog.count 0

-- 7: size is 0 or above 65,535: size_refused (crate refusals)

-- 8: the five counts sum to 2^48
abbrev pub counts_refused : State → Bool
counts_refused s = eqb (total s.verdicts) most_verdicts

-- 9: the head's stored size is 0 or above 65,535, or removing it would break the backlog: head_refused (crate refusals)
