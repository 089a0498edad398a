use Rattle.fq_words.specs.Words.{flows_of}
use Rattle.fq_words.proofs.AddedUp.{Before}
use Rattle.fq_words.proofs.testing.add_up.Given as goal

abbrev pub invariant-loop-i : goal.invariant-loop-i
invariant-loop-i l = Before l.c (flows_of l.flows) l.counts l.count l.bytes l.i
