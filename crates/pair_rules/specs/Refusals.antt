-- The refusals (docs/SHARED-TABLES.md, section 4): the test of each number but 1 (crate pair_rules), 7 (crate refusals) and 9 (Arrival,
-- Departure). Which number is given is first_refusal (crate refusals).
use Rattle.std.specs.Prelude.{Bool, not, ◌&&◌, ◌||◌, ℕ, ◌+◌, ltb, eqb}
use Rattle.pie.specs.Constants.{latest, most_verdicts, period}
use Rattle.pie.specs.Verdicts.{total}
use Rattle.pair_rules.specs.WellFormed.{well_formed}
use Rattle.pair_rules.specs.declared.Pair.{Pair}
use Rattle.pair_rules.specs.declared.Shared.{Shared}
use Rattle.pair_rules.specs.declared.State.{State}

-- 2: the records are not well formed, whichever queue is called
abbrev pub pair_refused : Pair → Bool
pair_refused p = not (well_formed p)

-- 3: either table's length is not the shared slots
abbrev pub tables_refused : Shared → (handles_length sizes_length : ℕ) → Bool
tables_refused s handles_length sizes_length = not (eqb handles_length s.slots && eqb sizes_length s.slots)

-- 4 to 8 read the called queue's state

-- 4: the call's clock is less than the state's, or above 2^48
abbrev pub clock_refused : State → (clock : ℕ) → Bool
clock_refused s clock = ltb clock s.clock.0 || ltb latest clock

-- 5: clock less than last tick + 15,000
abbrev pub too_soon_refused : State → (clock : ℕ) → Bool
too_soon_refused s clock = ltb clock (s.last.0 + period)

-- 6: count is 0
abbrev pub empty_refused : State → Bool
empty_refused s = eqb s.backlog.count 0

-- 7: size is 0 or above 65,535: size_refused (crate refusals)

-- 8: the five counts sum to 2^48
abbrev pub counts_refused : State → Bool
counts_refused s = eqb (total s.verdicts) most_verdicts

-- 9, of a departure and of an arrival: in Departure and Arrival
