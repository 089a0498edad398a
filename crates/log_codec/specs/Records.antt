-- A record of 40 bytes: its fields in the layout's order.
use Rattle.std.specs.Prelude.{List, [], ◌∷◌, ℕ, get_or}
use Rattle.log_codec.specs.Fields.{Fit, joined, parted}
use Rattle.log_codec.specs.declared.Record.{Record}

-- kind, ecn, unused, handle, clock, size, u, verdict, bytes, probability
abbrev pub widths : List ℕ
widths = 1 ∷ 1 ∷ 2 ∷ 4 ∷ 8 ∷ 4 ∷ 4 ∷ 4 ∷ 4 ∷ 8 ∷ []

abbrev pub fields_of : Record → List ℕ
fields_of r =
    r.kind ∷ r.ecn ∷ r.unused ∷ r.handle ∷ r.clock ∷ r.size ∷ r.u ∷ r.verdict ∷ r.bytes ∷ r.prob ∷ []

abbrev pub record_of : (fields : List ℕ) → Record
record_of f =
    record {
      kind = get_or f 0 0;
      ecn = get_or f 1 0;
      unused = get_or f 2 0;
      handle = get_or f 3 0;
      clock = get_or f 4 0;
      size = get_or f 5 0;
      u = get_or f 6 0;
      verdict = get_or f 7 0;
      bytes = get_or f 8 0;
      prob = get_or f 9 0;
    }

-- the 40 bytes of a record
unfoldable pub encoded : Record → List ℕ
encoded r = joined widths (fields_of r)

-- the record whose 40 bytes stand from `at` on
unfoldable pub decoded : (bytes : List ℕ) (at : ℕ) → Record
decoded bytes at = record_of (parted widths bytes at)

-- each field fits its width, as it does wherever code holds the record
abbrev pub InRange : Record → Type 0
InRange r = Fit widths (fields_of r)
