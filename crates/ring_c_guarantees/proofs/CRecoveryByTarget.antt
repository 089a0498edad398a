-- Demand 3 and question 4 for C calls, by the target: from the same over states.
use Rattle.ring_words.specs.Words.{state_of}
use Rattle.ring_guarantees.proofs.RecoveryByTarget.{recovery-by-target}
use Rattle.ring_c_guarantees.specs.CRecoveryByTarget.{CRecoveryByTarget}
use Rattle.ring_c_guarantees.proofs.CRecovery.{c-recovers}

-- the target in the words is the state's
pub c-recovery-by-target : CRecoveryByTarget
unfolding state_of
c-recovery-by-target w formed = c-recovers _ w (recovery-by-target (state_of w) formed)
