-- Tick rule 1 (docs/DOCSIS-PIE.md, part 6; RFC 8034, A.2): the delay estimated from queued bytes, credits and the two rates.
use Rattle.std.specs.Prelude.{ℕ, ◌+◌, ◌-◌, ◌*◌, ◌/◌, min}
use Rattle.pie.specs.Constants.{longest}

-- the bytes that leave at the peak rate
abbrev pub fast_of : (bytes credits : ℕ) → ℕ
fast_of bytes credits = min bytes credits

-- each quotient is rounded by itself; the sum is at most 10,000,000
unfoldable pub delay_of : (bytes credits peak sustained : ℕ) → ℕ
delay_of bytes credits peak sustained =
    let fast = fast_of bytes credits in
    min (fast * 1000000 / peak + (bytes - fast) * 1000000 / sustained) longest
