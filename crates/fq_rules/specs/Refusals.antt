-- 29: the test of each refusal number. Which number is given is first_refusal (crate refusals).
use Rattle.std.specs.Prelude.{Bool, not, ◌&&◌, ◌||◌, ℕ, ◌+◌, ltb, eqb}
use Rattle.pie.specs.Constants.{latest, most_verdicts, period}
use Rattle.pie.specs.Verdicts.{total}
use Rattle.fq_state.specs.State.{State}
use Rattle.fq_state.specs.WellFormed.{well_formed}
use Rattle.fq_state.specs.declared.Common.{Common}

-- 1: setup_refused (crate fq_state)

-- 2: the record is not well formed
abbrev pub state_refused : State → Bool
state_refused s = not (well_formed s)

-- 3: either table's length is not the record's slots
abbrev pub tables_refused : Common → (handles_length sizes_length : ℕ) → Bool
tables_refused c handles_length sizes_length = not (eqb handles_length c.settings.slots && eqb sizes_length c.settings.slots)

-- 4: the call's clock is less than the record's, or above 2^48
abbrev pub clock_refused : Common → (clock : ℕ) → Bool
clock_refused c clock = ltb clock c.clock.0 || ltb latest clock

-- 5: clock less than last tick + 15,000
abbrev pub too_soon_refused : Common → (clock : ℕ) → Bool
too_soon_refused c clock = ltb clock (c.last.0 + period)

-- 6: the total count is 0: no flow holds a packet
abbrev pub empty_refused : Common → Bool
empty_refused c = eqb c.backlog.count 0

-- 7: size is 0 or above 65,535: size_refused (crate refusals)

-- 8: the five counts sum to 2^48
abbrev pub counts_refused : Common → Bool
counts_refused c = eqb (total c.verdicts) most_verdicts

-- 9, of a departure and of an arrival: in Departure and Arrival
