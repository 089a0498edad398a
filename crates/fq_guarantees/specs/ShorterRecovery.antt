-- Demand 3 and question 4 for a target of 15,000 or more (Q-13), for each of 64 flows: 300 ticks on an empty flow suffice for all that
-- demand 3 says.
use Rattle.std.specs.Prelude.{◌≡◌, true, ℕ, ◌≤◌, ◌<◌}
use Rattle.pie_guarantees.specs.Recovery.{RecoversAfter}
use Rattle.fq_state.specs.WellFormed.{well_formed}
use Rattle.fq_guarantees.specs.Shedding.{flow_queue}
use Rattle.fq_guarantees.specs.SixtyFour.{Record64}

abbrev pub ShorterRecovery : Type 0
ShorterRecovery =
    (f : ℕ) (s : Record64) → f < 64 → well_formed s.state ≡ true → 15000 ≤ s.state.common.settings.target.0 →
    RecoversAfter (flow_queue f) 300 s
