-- `encode`: each word is its field.
use mathlib.Core.Path.{refl}
use Rattle.modem_words.specs.Words.{state_words}
use Rattle.modem_words.proofs.records.encode.Goals as goal

pub returns : goal.returns
unfolding state_words
returns c = refl
