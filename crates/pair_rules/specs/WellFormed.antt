-- 15: which records are well formed. Nothing is asked of the tables.
use Rattle.std.specs.Prelude.{Bool, not, ◌&&◌, ◌||◌, List, [], ◌∷◌, ◌++◌, ℕ, ◌+◌, ◌*◌, leb, ltb, eqb}
use Rattle.laws.specs.Tests.{all}
use Rattle.units.specs.Kinds.{whole}
use Rattle.pie.specs.Constants.{full_allowance, largest, latest, longest, most_accumulated, most_verdicts, threshold}
use Rattle.pie.specs.Verdicts.{total}
use Rattle.pair_rules.specs.Queues.{common_slots, common_use}
use Rattle.pair_rules.specs.declared.Pair.{Pair}
use Rattle.pair_rules.specs.declared.Settings.{Settings}
use Rattle.pair_rules.specs.declared.Shared.{Shared}
use Rattle.pair_rules.specs.declared.State.{State}

-- slots in range, and both reserves sum to at most the slots
abbrev pub slots_conditions : Shared → List Bool
slots_conditions s =
    leb 1 s.slots
    ∷ leb s.slots 65536
    ∷ leb (s.reserves.intercom + s.reserves.passengers) s.slots
    ∷ []

-- the shared record
abbrev pub shared_conditions : Shared → List Bool
shared_conditions s = slots_conditions s ++ ltb s.store.freed s.slots ∷ leb s.store.used s.slots ∷ []

-- target and buffer in range
abbrev pub settings_conditions : Settings → List Bool
settings_conditions s =
    leb 1000 s.target.0
    ∷ leb s.target.0 100000
    ∷ leb 1 s.buffer.0
    ∷ leb s.buffer.0 16777216
    ∷ []

-- each queue; head and tail are tested even where they mean nothing
abbrev pub queue_conditions : (slots : ℕ) → State → List Bool
queue_conditions slots s =
    settings_conditions s.settings
    ++ leb s.last.0 s.clock.0
    ∷ leb s.clock.0 latest
    ∷ leb s.pie.prob.0 whole
    ∷ leb s.pie.old.0 longest
    ∷ leb s.pie.allowance.0 full_allowance
    ∷ ltb s.pie.accumulated.0 most_accumulated
    ∷ leb s.pie.rate.average.0 longest
    ∷ ltb s.ends.head slots
    ∷ ltb s.ends.tail slots
    ∷ leb s.backlog.count slots
    ∷ leb s.backlog.count s.backlog.bytes.0
    ∷ leb s.backlog.bytes.0 (largest * s.backlog.count)
    ∷ leb s.backlog.bytes.0 s.settings.buffer.0
    ∷ leb s.pie.rate.start.0 s.clock.0
    ∷ ltb s.pie.rate.counted.0 threshold
    ∷ (s.pie.rate.measuring || eqb s.pie.rate.start.0 0)
    ∷ (s.pie.rate.measuring || eqb s.pie.rate.counted.0 0)
    ∷ not (s.pie.rate.measuring && eqb s.backlog.count 0)
    ∷ leb (total s.verdicts) most_verdicts
    ∷ []

-- both queues together
abbrev pub both_conditions : Pair → List Bool
both_conditions p =
    leb (common_use p) (common_slots p.shared)
    ∷ eqb (p.intercom.backlog.count + p.passengers.backlog.count + p.shared.store.spare) p.shared.store.used
    ∷ []

unfoldable pub well_formed : Pair → Bool
well_formed p =
    all (
    shared_conditions p.shared
    ++ queue_conditions p.shared.slots p.intercom
    ++ queue_conditions p.shared.slots p.passengers
    ++ both_conditions p
    )
