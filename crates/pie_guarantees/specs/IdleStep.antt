-- Q-9: with both delays 0 the step of either profile is never positive; so where tick rule 5 acted, p is not above 2^32 before rule 6, and
-- the upper limit there never acts.
use Rattle.std.specs.Prelude.{Bool, true, ℕ, ◌≤◌, ℤ, pos, ◌+ℤ◌}
use Rattle.units.specs.Kinds.{whole}
use Rattle.pie.specs.Update.{AtMost, capped, decayed, divisor_of, error_of, step_of}

-- rules 2 to 4, with both delays 0
abbrev pub idle_step : (calm : Bool) (p target : ℕ) → ℤ
idle_step calm p target = capped calm p (step_of (error_of 0 0 target) (divisor_of p))

abbrev pub NeverPositive : Type 0
NeverPositive = (calm : Bool) (p target : ℕ) → AtMost 0 (idle_step calm p target)

-- after rule 5
abbrev pub UpperLimitNeverActs : Type 0
UpperLimitNeverActs = (calm : Bool) (p target : ℕ) → p ≤ whole → AtMost whole (decayed true (pos p +ℤ idle_step calm p target))
