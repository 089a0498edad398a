-- The constants of docs/DOCSIS-PIE.md, part 1, and the three activities; other limits are document 01's.
use Rattle.std.specs.Prelude.{ℕ}
use Rattle.docsis_pie.specs.declared.Activity.{Activity}

-- the target where none is given, in microseconds
abbrev pub default_target : ℕ
default_target = 10000

-- the tick period, in microseconds
abbrev pub period : ℕ
period = 16000

-- the full burst allowance, in microseconds
abbrev pub full_allowance : ℕ
full_allowance = 142000

-- the reset timeout, in microseconds
abbrev pub reset_timeout : ℕ
reset_timeout = 1000000

-- below the low delay the probability decays, above the high one it ramps up, in microseconds
abbrev pub low_delay : ℕ
low_delay = 5000

abbrev pub high_delay : ℕ
high_delay = 200000

-- the mean packet, in bytes
abbrev pub mean_packet : ℕ
mean_packet = 1024

-- a small queue: two mean packets
abbrev pub small_queue : ℕ
small_queue = 2048

-- 13.6: the greatest stored probability
abbrev pub most_prob : ℕ
most_prob = 58411555225

-- 0.85: the greatest scaled probability
abbrev pub low : ℕ
low = 3650722201

-- 8.5: where the accumulated probability stops
abbrev pub high : ℕ
high = 36507222016

-- 0.02: the greatest step from one tenth on, and what a high delay adds
abbrev pub cap : ℕ
cap = 85899345

-- ── the activities ──

abbrev pub inactive : ℕ
inactive = 0

abbrev pub quiescent : ℕ
quiescent = 1

abbrev pub active : ℕ
active = 2

abbrev pub activity : ℕ → Activity
activity n = record { 0 = n }
