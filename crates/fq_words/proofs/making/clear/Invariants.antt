use mathlib.Core.Path.{◌≡◌}
use lib.ListN.{replicate, take}
use Rattle.fq_state.specs.Flow.{empty_flow}
use Rattle.fq_words.specs.Words.{flows_of}
use Rattle.fq_words.proofs.making.clear.Given as goal

abbrev pub invariant-loop-i : goal.invariant-loop-i
invariant-loop-i l = take l.i (flows_of l.flows) ≡ replicate l.i (empty_flow l.allowance)
