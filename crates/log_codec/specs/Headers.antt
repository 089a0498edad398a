-- The settings in 32 bytes: their fields in the layout's order.
use Rattle.std.specs.Prelude.{List, [], ◌∷◌, ℕ, get_or}
use Rattle.log_codec.specs.Fields.{Fit, joined, parted}
use Rattle.log_codec.specs.declared.Header.{Header}

-- target, buffer, slots, start clock, profile, unused
abbrev pub header_widths : List ℕ
header_widths = 8 ∷ 4 ∷ 4 ∷ 8 ∷ 1 ∷ 7 ∷ []

abbrev pub header_fields : Header → List ℕ
header_fields h = h.target ∷ h.buffer ∷ h.slots ∷ h.clock ∷ h.profile ∷ h.unused ∷ []

abbrev pub header_of : (fields : List ℕ) → Header
header_of f =
    record {
      target = get_or f 0 0;
      buffer = get_or f 1 0;
      slots = get_or f 2 0;
      clock = get_or f 3 0;
      profile = get_or f 4 0;
      unused = get_or f 5 0;
    }

-- the 32 bytes of the settings
unfoldable pub encoded_header : Header → List ℕ
encoded_header h = joined header_widths (header_fields h)

-- the settings whose 32 bytes stand from `at` on
unfoldable pub decoded_header : (bytes : List ℕ) (at : ℕ) → Header
decoded_header bytes at = header_of (parted header_widths bytes at)

-- each field fits its width, as it does wherever code holds settings that 12 does not refuse
abbrev pub HeaderInRange : Header → Type 0
HeaderInRange h = Fit header_widths (header_fields h)
