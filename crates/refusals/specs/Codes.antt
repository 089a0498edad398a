-- The number that a C caller gets for each answer, as include/obikuteru.h names them.
use Rattle.std.specs.Prelude.{List, [], ◌∷◌, ℕ, ◌+◌, Result, Ok, Err}
use Rattle.pie.specs.Verdicts.{place_of}
use Rattle.refusals.specs.Numbers.{number_of}
use Rattle.refusals.specs.declared.Refusal.{Refusal}
use Rattle.refusals.specs.Answer.{Answer, departed, handle_in, made, refused, size_in, ticked, verdict}

-- 0 to 4 for a verdict, in the order of the counts; 100 and the number for a refusal; 0 for any other call that is accepted
abbrev pub code_of : Answer → ℕ
code_of (refused number) = 100 + number
code_of made = 0
code_of (verdict v) = place_of v
code_of (departed handle size) = 0
code_of ticked = 0

-- what a departure writes for its packet: handle and size, or 0 and 0
abbrev pub packet_of : Answer → List ℕ
packet_of a = handle_in a ∷ size_in a ∷ []

-- the same of what a call's own code gives: a number where it is accepted, a refusal where it is not
abbrev pub code_in : Result ℕ Refusal → ℕ
code_in (Ok number) = number
code_in (Err r) = 100 + number_of r
