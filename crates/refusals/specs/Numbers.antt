-- The number of each refusal.
use Rattle.std.specs.Prelude.{ℕ, Result, Ok, Err}
use Rattle.refusals.specs.declared.Refusal.{Refusal}
use Rattle.refusals.specs.declared.Refusal.TheVariants.{Settings, Malformed, Tables, Clock, TooSoon, Empty, Size, Counts, Head}

-- the refusal numbers
abbrev pub number_of : Refusal → ℕ
number_of Settings = 1
number_of Malformed = 2
number_of Tables = 3
number_of Clock = 4
number_of TooSoon = 5
number_of Empty = 6
number_of Size = 7
number_of Counts = 8
number_of Head = 9

-- the number of the refusal that a call answers, and 0 where there is none
abbrev pub refusal_in : {T : Type 0} → Result T Refusal → ℕ
refusal_in (Ok x) = 0
refusal_in (Err r) = number_of r
