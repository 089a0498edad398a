-- What a C caller gets for each answer: the number, as include/obikuteru.h names them, and the words.
use Rattle.std.specs.Prelude.{List, [], ◌∷◌, ℕ, zero, suc, ◌+◌}
use Rattle.pie.specs.Verdicts.{place_of}
use Rattle.fq_state.specs.State.{State}
use Rattle.fq_rules.specs.Answer.{Answer, Reply, departed, flow_in, handle_in, refused, size_in, ticked, verdict}
use Rattle.fq_words.specs.Written.{common_words, flow_words}

-- 0 to 4 for a verdict, in the order of the counts; 100 and the number for a refusal; 0 for any other call that is accepted
abbrev pub code_of : Answer → ℕ
code_of (refused number) = 100 + number
code_of (verdict v) = place_of v
code_of (departed flow handle size) = 0
code_of ticked = 0

-- of a fresh call: 0, or 100 and the number
abbrev pub fresh_code : (number : ℕ) → ℕ
fresh_code zero = 0
fresh_code (suc n) = 100 + suc n

-- the nineteen words of a record
abbrev pub words_of : State → List ℕ
words_of s = common_words s.common s.schedule.lists

-- words after a call: a refused call leaves them as they were
abbrev pub words_for : Answer → (words returned : List ℕ) → List ℕ
words_for (refused number) words returned = words
words_for (verdict v) words returned = returned
words_for (departed flow handle size) words returned = returned
words_for ticked words returned = returned

abbrev pub common_after : Reply → (words : List ℕ) → List ℕ
common_after r words = words_for r.answer words (words_of r.state)

abbrev pub order_after : Reply → (words : List ℕ) → List ℕ
order_after r words = words_for r.answer words r.state.schedule.order

abbrev pub deficits_after : Reply → (words : List ℕ) → List ℕ
deficits_after r words = words_for r.answer words r.state.schedule.deficits

abbrev pub flows_after : Reply → (words : List ℕ) → List ℕ
flows_after r words = words_for r.answer words (flow_words r.state.flows)

-- what a departure writes for its packet: flow, handle and size, or three times 0
abbrev pub packet_of : Answer → List ℕ
packet_of a = flow_in a ∷ handle_in a ∷ size_in a ∷ []
