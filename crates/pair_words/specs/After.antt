-- The words after a call.
use Rattle.std.specs.Prelude.{List, ℕ}
use Rattle.ring_words.specs.Codes.{words_for}
use Rattle.pair_rules.specs.Answer.{Reply}
use Rattle.pair_rules.specs.Queues.{own}
use Rattle.pair_rules.specs.declared.Which.{Which}
use Rattle.pair_words.specs.Words.{shared_words, state_words}

-- the shared record's, and the called queue's
abbrev pub shared_after : Reply → (words : List ℕ) → List ℕ
shared_after r words = words_for r.answer words (shared_words r.pair.shared)

abbrev pub own_after : Which → Reply → (words : List ℕ) → List ℕ
own_after w r words = words_for r.answer words (state_words words (own w r.pair))
