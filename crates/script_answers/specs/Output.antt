-- The output lines.
use Rattle.std.specs.Prelude.{List, [], ◌∷◌, ◌++◌, ℕ, Result, Ok, Err}
use Prim.Native.Char.{code}
use Prim.Native.String.{String}
use Prim.Native.String as Text
use Rattle.decimal.specs.Digits.{digits_of}
use Rattle.pie.specs.declared.Verdict.{Verdict}
use Rattle.pie.specs.declared.Verdict.TheVariants.{Enqueued, Marked, DroppedBytes, DroppedSlots, DroppedEarly}
use Rattle.refusals.specs.Answer.{Answer, departed, made, refused, ticked, verdict}
use Rattle.refusals.specs.Numbers.{number_of}
use Rattle.refusals.specs.declared.Refusal.{Refusal}
use Rattle.ring.specs.Answer.{Reply}
use Rattle.ring.specs.declared.State.{State}
use Rattle.script_answers.specs.declared.Accepted.{Accepted}
use Rattle.script_answers.specs.declared.Accepted.TheVariants.{Made, Decided, Departed, Ticked}

-- the bytes of a text in ASCII
abbrev pub ascii : String → List ℕ
ascii Text.[] = []
ascii (Text.◌∷◌ c text) = code c ∷ ascii text

abbrev pub verdict_word : Verdict → List ℕ
verdict_word Enqueued = ascii "enqueued"
verdict_word Marked = ascii "marked"
verdict_word DroppedBytes = ascii "dropped-bytes"
verdict_word DroppedSlots = ascii "dropped-slots"
verdict_word DroppedEarly = ascii "dropped-early"

-- what the library's own value says; a departure's size is not written
abbrev pub answer_of : Result Accepted Refusal → Answer
answer_of (Ok Made) = made
answer_of (Ok (Decided v)) = verdict v
answer_of (Ok (Departed handle)) = departed handle 0
answer_of (Ok Ticked) = ticked
answer_of (Err refusal) = refused (number_of refusal)

-- departed with the handle, refused with the number
abbrev pub word_of : Answer → List ℕ
word_of (refused number) = ascii "refused " ++ digits_of number
word_of made = ascii "ok"
word_of (verdict v) = verdict_word v
word_of (departed handle size) = ascii "departed " ++ digits_of handle
word_of ticked = ascii "ticked"

-- probability and bytes
abbrev pub numbers_text : (prob bytes : ℕ) → List ℕ
numbers_text prob bytes = (ascii " " ++ digits_of prob) ++ ((ascii " " ++ digits_of bytes) ++ ascii "\n")

abbrev pub state_text : State → List ℕ
state_text s = numbers_text s.pie.prob.0 s.backlog.bytes.0

abbrev pub reply_text : Reply → List ℕ
reply_text r = word_of r.answer ++ state_text r.state

abbrev pub bad_text : (line : ℕ) → List ℕ
bad_text line = ascii "bad line " ++ (digits_of line ++ ascii "\n")
