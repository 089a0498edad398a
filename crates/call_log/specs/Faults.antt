-- The settings that 12 refuses, and the records that 13 refuses. Faults are those of one record.
use Rattle.std.specs.Prelude.{Bool, true, cond, not, ◌&&◌, ◌||◌, List, [], ◌∷◌, ℕ, eqb, leb}
use Rattle.units.specs.Kinds.{whole}
use Rattle.pie.specs.Constants.{largest, latest}
use Rattle.ring.specs.Fresh.{settings_of}
use Rattle.ring.specs.Refusals.{settings_refused}
use Rattle.laws.specs.Tests.{all}
use Rattle.log_codec.specs.declared.Header.{Header}
use Rattle.log_codec.specs.declared.Record.{Record}

-- 12: settings that refusal 1 would meet, or an unused byte set
unfoldable pub header_refused : Header → Bool
header_refused h = settings_refused (settings_of h.target h.buffer h.slots h.profile) h.clock || not (eqb h.unused 0)

-- the kinds, by the script's letters: a, d, t
abbrev pub arrival : Record → Bool
arrival r = eqb r.kind 97

abbrev pub departure : Record → Bool
departure r = eqb r.kind 100

abbrev pub tick : Record → Bool
tick r = eqb r.kind 116

-- the most bytes that a queue holds
abbrev pub most_bytes : ℕ
most_bytes = 16777216

-- a field that a kind uses is in its range; one that it does not use is 0
abbrev pub field : (used : Bool) (value : ℕ) (in_range : Bool) → Bool
field used value in_range = cond used in_range (eqb value 0)

-- one row a field, in the layout's order: which kinds use it, and its range
abbrev pub field_conditions : Record → List Bool
field_conditions r =
    (arrival r || departure r || tick r)
    ∷ field (arrival r) r.ecn (leb r.ecn 1)
    ∷ eqb r.unused 0
    ∷ field (arrival r) r.handle true
    ∷ leb r.clock latest
    ∷ field (arrival r) r.size (leb 1 r.size && leb r.size largest)
    ∷ field (arrival r) r.u true
    ∷ field (arrival r || departure r) r.verdict (departure r || leb r.verdict 4)
    ∷ leb r.bytes most_bytes
    ∷ leb r.prob whole
    ∷ []

-- 13: a field out of range, or an unused one not 0
unfoldable pub faulty : Record → Bool
faulty r = not (all (field_conditions r))
