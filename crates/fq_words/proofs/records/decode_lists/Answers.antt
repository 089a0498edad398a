-- `decode_lists`: each field is its word.
use mathlib.Core.Path.{refl}
use Rattle.fq_words.specs.Words.{lists_of}
use Rattle.fq_words.proofs.records.decode_lists.Goals as goal

pub returns : goal.returns
unfolding lists_of
returns c = refl
