-- The word of a queue's answer.
use Rattle.std.specs.Prelude.{ℕ}
use Rattle.refusals.specs.Answer.{Answer, handle_in, size_in}
use Rattle.refusals.specs.Codes.{code_of}
use Rattle.bursts.specs.Numbers.{word_of}

abbrev pub answer_word : Answer → ℕ
answer_word a = word_of (code_of a) (size_in a) (handle_in a)
