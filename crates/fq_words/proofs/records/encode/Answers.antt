-- `encode`: each word is its field.
use mathlib.Core.Path.{refl}
use Rattle.fq_words.specs.Written.{common_words}
use Rattle.fq_words.proofs.records.encode.Goals as goal

pub returns : goal.returns
unfolding common_words
returns c = refl
