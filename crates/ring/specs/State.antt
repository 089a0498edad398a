-- Which state records are well formed (document 01, 'The state record').
use Rattle.std.specs.Prelude.{Bool, not, ◌&&◌, ◌||◌, List, [], ◌∷◌, ◌++◌, ◌*◌, leb, ltb, eqb}
use Rattle.laws.specs.Tests.{all}
use Rattle.units.specs.Kinds.{whole}
use Rattle.pie.specs.Constants.{full_allowance, largest, latest, longest, most_accumulated, most_verdicts, threshold}
use Rattle.pie.specs.Verdicts.{total}
use Rattle.ring.specs.Activity.{is_calm}
use Rattle.ring.specs.declared.Settings.{Settings}
use Rattle.ring.specs.declared.State.{State}

-- target, buffer, slots and profile in range
abbrev pub settings_conditions : Settings → List Bool
settings_conditions s =
    leb 1000 s.target.0
    ∷ leb s.target.0 100000
    ∷ leb 1 s.buffer.0
    ∷ leb s.buffer.0 16777216
    ∷ leb 1 s.slots
    ∷ leb s.slots 65536
    -- (Q-12)
    ∷ leb s.profile 1
    ∷ []

-- all else that is asked of a state
abbrev pub state_conditions : State → List Bool
state_conditions s =
    leb s.last.0 s.clock.0
    ∷ leb s.clock.0 latest
    ∷ leb s.pie.prob.0 whole
    ∷ leb s.pie.old.0 longest
    ∷ leb s.pie.allowance.0 full_allowance
    -- (Q-3)
    ∷ ltb s.pie.accumulated.0 most_accumulated
    ∷ leb s.pie.rate.average.0 longest
    ∷ ltb s.first s.settings.slots
    ∷ leb s.backlog.count s.settings.slots
    ∷ leb s.backlog.count s.backlog.bytes.0
    ∷ leb s.backlog.bytes.0 (largest * s.backlog.count)
    ∷ leb s.backlog.bytes.0 s.settings.buffer.0
    ∷ leb s.pie.rate.start.0 s.clock.0
    ∷ ltb s.pie.rate.counted.0 threshold
    ∷ (s.pie.rate.measuring || eqb s.pie.rate.start.0 0)
    ∷ (s.pie.rate.measuring || eqb s.pie.rate.counted.0 0)
    -- no measurement runs on an empty queue (Q-6)
    ∷ not (s.pie.rate.measuring && eqb s.backlog.count 0)
    ∷ leb (total s.verdicts) most_verdicts
    -- an inactive queue is calm and its probability is 0 (Q-12)
    ∷ (s.active || (is_calm s.settings && eqb s.pie.prob.0 0))
    ∷ []

unfoldable pub well_formed : State → Bool
well_formed s = all (settings_conditions s.settings ++ state_conditions s)
