-- 23: which records are well formed. Nothing is asked of the tables.
use Rattle.std.specs.Prelude.{Bool, true, not, ◌&&◌, ◌||◌, List, [], ◌∷◌, ◌++◌, ◌+◌, ◌*◌, ◌^◌, leb, ltb, eqb}
use Rattle.laws.specs.Tests.{all}
use Rattle.units.specs.Kinds.{whole}
use Rattle.pie.specs.Constants.{full_allowance, largest, latest, longest, most_accumulated, most_verdicts, threshold}
use Rattle.pie.specs.Verdicts.{total}
use Rattle.schedule.specs.WellFormed.{well_listed}
use Rattle.pie_words.specs.Flags.{is_set}
use Rattle.fq_state.specs.State.{State, counts_of, each_bytes}
use Rattle.fq_state.specs.declared.Common.{Common}
use Rattle.fq_state.specs.declared.Flow.{Flow}
use Rattle.fq_state.specs.declared.Settings.{Settings}

-- target, buffer, slots in range; the salt is any number of 32 bits
abbrev pub settings_conditions : Settings → List Bool
settings_conditions s =
    leb 1000 s.target.0
    ∷ leb s.target.0 100000
    ∷ leb 1 s.buffer.0
    ∷ leb s.buffer.0 16777216
    ∷ leb 1 s.slots
    ∷ leb s.slots 65536
    ∷ ltb s.salt (2 ^ 32)
    ∷ []

abbrev pub common_conditions : Common → List Bool
common_conditions c =
    settings_conditions c.settings
    ++ leb c.last.0 c.clock.0
    ∷ leb c.clock.0 latest
    ∷ ltb c.store.freed c.settings.slots
    ∷ leb c.store.used c.settings.slots
    ∷ eqb (c.backlog.count + c.store.spare) c.store.used
    ∷ leb (total c.verdicts) most_verdicts
    ∷ []

-- each flow; head and tail are tested even where they mean nothing
abbrev pub flow_conditions : Common → Flow → List Bool
flow_conditions c f =
    leb f.prob whole
    ∷ leb f.old longest
    ∷ leb f.allowance full_allowance
    ∷ ltb f.accumulated most_accumulated
    ∷ leb f.average longest
    ∷ ltb f.head c.settings.slots
    ∷ ltb f.tail c.settings.slots
    ∷ leb f.count c.settings.slots
    ∷ leb f.count f.bytes
    ∷ leb f.bytes (largest * f.count)
    ∷ leb f.bytes c.settings.buffer.0
    ∷ leb f.start c.clock.0
    ∷ ltb f.counted threshold
    ∷ (is_set f.measuring || eqb f.start 0)
    ∷ (is_set f.measuring || eqb f.counted 0)
    ∷ not (is_set f.measuring && eqb f.count 0)
    ∷ []

unfoldable pub flows_fit : Common → List Flow → Bool
flows_fit c [] = true
flows_fit c (f ∷ flows) = all (flow_conditions c f) && flows_fit c flows

-- the flows' counts sum to the total count, and their bytes to the total bytes, at most the buffer
abbrev pub totals_conditions : Common → List Flow → List Bool
totals_conditions c flows =
    eqb (total (counts_of flows)) c.backlog.count
    ∷ eqb (total (each_bytes flows)) c.backlog.bytes.0
    ∷ leb c.backlog.bytes.0 c.settings.buffer.0
    ∷ []

unfoldable pub well_formed : State → Bool
well_formed s =
    all (common_conditions s.common)
    && flows_fit s.common s.flows
    && all (totals_conditions s.common s.flows)
    && well_listed (counts_of s.flows) s.schedule
