-- `decode`: each field is its word.
use borrow.Author.Rules.{rules}
use mathlib.Core.Path.{refl}
use Rattle.modem_words.specs.Words.{state_of}
use Rattle.modem_words.proofs.records.decode.Goals as goal

pub returns : goal.returns
unfolding state_of
returns c = (refl, search rules)
