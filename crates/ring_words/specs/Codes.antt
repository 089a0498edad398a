-- The words after a call.
use Rattle.std.specs.Prelude.{List, ℕ}
use Rattle.refusals.specs.Answer.{Answer, departed, made, refused, ticked, verdict}
use Rattle.ring.specs.Answer.{Reply}
use Rattle.ring_words.specs.Words.{state_words}

-- the words after a call: a refused call leaves them as they were
abbrev pub words_for : Answer → (words returned : List ℕ) → List ℕ
words_for (refused number) words returned = words
words_for made words returned = returned
words_for (verdict v) words returned = returned
words_for (departed handle size) words returned = returned
words_for ticked words returned = returned

abbrev pub words_after : Reply → (words : List ℕ) → List ℕ
words_after r words = words_for r.answer words (state_words words r.state)
