-- What a call on a log answers, in document 02's numbers.
use Rattle.std.specs.Prelude.{ℕ, Option, None, Some, Result, Ok, Err}
use Rattle.log_codec.specs.declared.Header.{Header}
use Rattle.log_codec.specs.declared.Record.{Record}
use Rattle.call_log.specs.declared.Refusal.{Refusal}
use Rattle.call_log.specs.declared.Refusal.TheVariants.{Trailer, Settings, Fault, Room}
use Rattle.call_log.specs.declared.Writer.{Writer}

-- a refusal, with its number, or what was asked for
pub data Answer (A : Type 0) : Type 0 where
  refused : (number : ℕ) → Answer A
  given : A → Answer A

-- what stands at a place: a record, with the place after it, or the end
pub data Turn : Type 0 where
  handed : Record → (next : ℕ) → Turn
  end : Turn

-- ── what the library's own values say ──

-- the refusal numbers
abbrev pub refusal_number : Refusal → ℕ
refusal_number Trailer = 11
refusal_number Settings = 12
refusal_number Fault = 13
refusal_number Room = 14

-- the number of a refusal, and 0 where there is none
abbrev pub refusal_in : {T : Type 0} → Result T Refusal → ℕ
refusal_in (Ok x) = 0
refusal_in (Err r) = refusal_number r

abbrev pub turn_of : Result (Option (Record × ℕ)) Refusal → Answer Turn
turn_of (Ok (Some (r, next))) = given (handed r next)
turn_of (Ok None) = given end
turn_of (Err r) = refused (refusal_number r)

abbrev pub header_of : Result Header Refusal → Answer Header
header_of (Ok h) = given h
header_of (Err r) = refused (refusal_number r)

-- offset and count
abbrev pub shape_of : Result Writer Refusal → Answer (ℕ × ℕ)
shape_of (Ok w) = given (w.offset, w.count)
shape_of (Err r) = refused (refusal_number r)
