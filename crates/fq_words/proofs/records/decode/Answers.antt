-- `decode`: each field is its word.
use Rattle.fq_words.specs.Words.{common_of}
use Rattle.fq_words.proofs.records.decode.Goals as goal

pub returns : goal.returns
unfolding common_of
returns c = rw c.counts_at-verdicts.ensures
