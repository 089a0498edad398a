-- Demand 3 and question 4 for C calls, by the target (Q-13): as many ticks on an empty queue as obikuteru_ticks_to_recover answers for the
-- record's target suffice for all that demand 3 says, in both profiles.
use Rattle.std.specs.Prelude.{◌≡◌, true, List, ℕ}
use Rattle.pie_guarantees.specs.TicksToRecover.{ticks_to_recover}
use Rattle.ring.specs.State.{well_formed}
use Rattle.ring_words.specs.Words.{state_of}
use Rattle.ring_c_guarantees.specs.CRecovery.{CRecoversAfter}
use Rattle.ring_c_guarantees.specs.Fields.{target_in}

abbrev pub CRecoveryByTarget : Type 0
CRecoveryByTarget = (words : List ℕ) → well_formed (state_of words) ≡ true → CRecoversAfter (ticks_to_recover (target_in words)) words
