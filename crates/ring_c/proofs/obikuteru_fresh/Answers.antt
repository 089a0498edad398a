-- `obikuteru_fresh`: the words of the reply's state, also where it refuses.
use mathlib.Core.Path.{refl, ◌∙◌}
use lib.ListN.{replicate}
use Rattle.ring_words.proofs.Words.{over_zeros}
use Rattle.ring_c.proofs.obikuteru_fresh.Goals as goal

pub returns-in-Ok-clause-words_after : goal.returns-in-Ok-clause-words_after
returns-in-Ok-clause-words_after c = rw (← c.fresh-r.ensures) (c.encode.ensures ∙ over_zeros (replicate 23 0) _ refl refl)

pub returns-in-Err-clause-words_after : goal.returns-in-Err-clause-words_after
returns-in-Err-clause-words_after c = rw (← c.fresh-r.ensures) (c.encode.ensures ∙ over_zeros (replicate 23 0) _ refl refl)
