-- What the library's own values say, in numbers.
use Rattle.std.specs.Prelude.{ℕ, Option, None, Some, Result, Ok, Err}
use Rattle.call_log.specs.Answers.{refusal_number as log_number}
use Rattle.replay.specs.declared.Field.{Field}
use Rattle.replay.specs.declared.Field.TheVariants.{Verdict, Probability, Bytes}
use Rattle.replay.specs.declared.Refusal.{Refusal}
use Rattle.replay.specs.declared.Refusal.TheVariants.{Log, Tables}

abbrev pub refusal_number : Refusal → ℕ
refusal_number (Log r) = log_number r
refusal_number Tables = 3

-- 1 verdict, 2 probability, 3 bytes; 0 where none disagrees
abbrev pub field_number : Option Field → ℕ
field_number None = 0
field_number (Some Verdict) = 1
field_number (Some Probability) = 2
field_number (Some Bytes) = 3

-- of a call by the rules the refusal's number, 0 where there is none, and the verdict, 0 where it is refused
abbrev pub refusal_told : Result ℕ ℕ → ℕ
refusal_told (Ok verdict) = 0
refusal_told (Err number) = number

abbrev pub verdict_told : Result ℕ ℕ → ℕ
verdict_told (Ok verdict) = verdict
verdict_told (Err number) = 0
