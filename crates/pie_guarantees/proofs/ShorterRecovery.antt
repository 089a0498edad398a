-- Demand 3 and question 4 for a target of 15,000 or more.
use mathlib.Core.Path.{refl}
use Rattle.pie.specs.Update.{capped, decayed, divisor_of, error_of, limited, lookup, next_prob, step_of}
use Rattle.pie_guarantees.specs.ShorterRecovery.{ShorterRecovery}
use Rattle.pie_guarantees.specs.TicksToRecover.{most_left, row_before}
use Rattle.pie_guarantees.proofs.Bound.{bound}
use Rattle.pie_guarantees.proofs.Recovery.{recovers-after}

pub shorter-recovery : ShorterRecovery
unfolding bound capped decayed divisor_of error_of limited lookup most_left next_prob row_before step_of
shorter-recovery k sheds start f h = recovers-after k sheds _ 15000 refl start f h
