-- Demand 3 and question 4 for a target of 15,000 or more (Q-13): 300 ticks on an empty queue suffice for all that demand 3
-- says, in both profiles.
use Rattle.std.specs.Prelude.{◌≡◌, true, ◌≤◌}
use Rattle.ring.specs.declared.State.{State}
use Rattle.ring.specs.State.{well_formed}
use Rattle.ring_guarantees.specs.Recovery.{RecoversAfter}

abbrev pub ShorterRecovery : Type 0
ShorterRecovery = (start : State) → well_formed start ≡ true → 15000 ≤ start.settings.target.0 → RecoversAfter 300 start
