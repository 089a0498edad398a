-- Which records, with the row of their flow, are well formed (docs/DOCSIS-PIE.md, part 2).
use Rattle.std.specs.Prelude.{Bool, ◌&&◌, ◌||◌, List, [], ◌∷◌, ◌++◌, ℕ, ◌*◌, leb, ltb, eqb}
use Rattle.units.specs.Kinds.{fastest, none, slowest}
use Rattle.pie.specs.Constants.{largest, latest, longest, most_verdicts}
use Rattle.pie.specs.Verdicts.{total}
use Rattle.laws.specs.Tests.{all}
use Rattle.docsis_pie.specs.Constants.{active, full_allowance, high, most_prob, quiescent, reset_timeout}
use Rattle.modem_flow.specs.declared.Settings.{Settings}
use Rattle.modem_flow.specs.declared.State.{State}

-- target, buffer, slots, peak and sustained in range
abbrev pub settings_conditions : Settings → List Bool
settings_conditions s =
    leb 1000 s.target.0
    ∷ leb s.target.0 100000
    ∷ leb 1 s.buffer.0
    ∷ leb s.buffer.0 16777216
    ∷ leb 1 s.slots
    ∷ leb s.slots 65536
    ∷ leb slowest s.peak.0
    ∷ leb s.peak.0 fastest
    ∷ leb slowest s.sustained.0
    ∷ leb s.sustained.0 fastest
    ∷ []

-- all else that is asked of a record
abbrev pub state_conditions : State → List Bool
state_conditions s =
    leb s.last.0 s.clock.0
    ∷ leb s.clock.0 latest
    ∷ leb s.pie.prob.0 most_prob
    ∷ leb s.pie.accumulated.0 high
    ∷ leb s.pie.old.0 longest
    ∷ leb s.pie.allowance.0 full_allowance
    ∷ leb s.pie.phase.reset.0 reset_timeout
    ∷ leb s.pie.phase.activity.0 active
    ∷ ltb s.first s.settings.slots
    ∷ leb s.backlog.count s.settings.slots
    ∷ leb s.backlog.count s.backlog.bytes.0
    ∷ leb s.backlog.bytes.0 (largest * s.backlog.count)
    ∷ leb s.backlog.bytes.0 s.settings.buffer.0
    -- the allowance is 0, or the flow is active
    ∷ (eqb s.pie.allowance.0 0 || eqb s.pie.phase.activity.0 active)
    -- the reset time is 0, or the flow is quiescent and p is 0
    ∷ (eqb s.pie.phase.reset.0 0 || (eqb s.pie.phase.activity.0 quiescent && eqb s.pie.prob.0 none))
    ∷ []

unfoldable pub formed : State → Bool
formed s = all (settings_conditions s.settings ++ state_conditions s)

-- and the five counts of the row sum to at most 2^48
unfoldable pub well_formed : State → (row : List ℕ) → Bool
well_formed s row = formed s && leb (total row) most_verdicts
