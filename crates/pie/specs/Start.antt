-- The algorithm as it begins: at fresh, and where an inactive queue turns active (RFC 8033, 5.3; Q-12).
use Rattle.std.specs.Prelude.{ℕ}
use Rattle.units.specs.Kinds.{micros, none, prob}
use Rattle.pie.specs.Constants.{full_allowance}
use Rattle.pie.specs.DepartureRate.{resting}
use Rattle.pie.specs.declared.Pie.{Pie}

-- probability, old delay, average and accumulated sum are 0, and no measurement runs
abbrev pub unstarted : (allowance : ℕ) → Pie
unstarted allowance =
    record { prob = prob none; old = micros 0; allowance = micros allowance; accumulated = prob none; rate = resting 0 }

-- the same, with the full allowance
abbrev pub restarted : Pie
restarted = unstarted full_allowance
