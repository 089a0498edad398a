-- The refusals (docs/DOCSIS-PIE.md, part 3): the test of each number but 10; those of 7 and 9 are the ring's.
use Rattle.std.specs.Prelude.{Bool, not, ◌&&◌, ◌||◌, List, ℕ, ◌+◌, ltb, leb, eqb}
use Rattle.pie.specs.Constants.{latest, most_verdicts}
use Rattle.pie.specs.Verdicts.{total}
use Rattle.laws.specs.Tests.{all}
use Rattle.docsis_pie.specs.Constants.{period}
use Rattle.modem_flow.specs.State.{settings_conditions, well_formed}
use Rattle.modem_flow.specs.declared.Settings.{Settings}
use Rattle.modem_flow.specs.declared.State.{State}

-- 1: target, buffer, slots, peak or sustained out of range, or start clock above 2^48
abbrev pub settings_refused : Settings → (clock : ℕ) → Bool
settings_refused s clock = not (all (settings_conditions s) && leb clock latest)

-- 2: the state, with the flow's row, is not well formed
abbrev pub state_refused : State → (row : List ℕ) → Bool
state_refused s row = not (well_formed s row)

-- 3: either table's length is not the state's slots
abbrev pub tables_refused : State → (handles_length sizes_length : ℕ) → Bool
tables_refused s handles_length sizes_length = not (eqb handles_length s.settings.slots && eqb sizes_length s.settings.slots)

-- 4: the call's clock is less than the state's, or above 2^48
abbrev pub clock_refused : State → (clock : ℕ) → Bool
clock_refused s clock = ltb clock s.clock.0 || ltb latest clock

-- 5: clock less than last tick + 16,000
abbrev pub too_soon_refused : State → (clock : ℕ) → Bool
too_soon_refused s clock = ltb clock (s.last.0 + period)

-- 6: count is 0
abbrev pub empty_refused : State → Bool
empty_refused s = eqb s.backlog.count 0

-- 8: the five counts of the row sum to 2^48
abbrev pub counts_refused : (row : List ℕ) → Bool
counts_refused row = eqb (total row) most_verdicts
