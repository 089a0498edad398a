-- The reader's own steps: what it is after one byte more, and what command it has read, of a kind of queue that makes
-- a command of a letter and numbers.
use Rattle.std.specs.Prelude.{Bool, true, false, cond, List, [], ◌∷◌, ◌++◌, ℕ, ◌+◌, ◌-◌, leb, ltb, eqb, drop}
use Rattle.lines.specs.Numbers.{extended, is_digit}
use Rattle.lines.specs.Forms.{double_word}
use Rattle.lines.specs.declared.Phase.{Phase}
use Rattle.lines.specs.declared.Phase.TheVariants.{Start, Letter, Gap, Digits, Spoiled}
use Rattle.lines.specs.declared.Reader.{Reader}

abbrev pub reader : Phase → (letter count value : ℕ) (fields : List ℕ) → Reader
reader phase letter count value fields =
    record { phase = phase; letter = letter; count = count; value = value; fields = fields }

abbrev pub no_fields : List ℕ
no_fields = 0 ∷ 0 ∷ 0 ∷ 0 ∷ 0 ∷ 0 ∷ []

-- nothing is read
abbrev pub begun : Reader
begun = reader Start 0 0 0 no_fields

-- in another phase, with another value
abbrev pub moved : Reader → Phase → (value : ℕ) → Reader
moved r phase value = reader phase r.letter r.count value r.fields

-- no command begins like this
abbrev pub spoiled : Reader → Reader
spoiled r = moved r Spoiled r.value

-- the letter
unfoldable pub after_start : Reader → (byte : ℕ) → Reader
after_start r byte = cond (eqb byte 32) (spoiled r) (reader Letter byte 0 0 no_fields)

-- the space behind the letter
unfoldable pub after_letter : Reader → (byte : ℕ) → Reader
after_letter r byte = cond (eqb byte 32) (moved r Gap r.value) (spoiled r)

-- a field's first digit
unfoldable pub after_gap : Reader → (byte : ℕ) → Reader
after_gap r byte = cond (is_digit byte) (moved r Digits (extended 0 byte)) (spoiled r)

-- a field's next digit, unless the number is past 64 bits
abbrev pub digit_read : Reader → (number : ℕ) → Reader
digit_read r number = cond (leb number double_word) (moved r Digits number) (spoiled r)

-- the space behind a field, unless it is the seventh
abbrev pub field_read : Reader → Reader
field_read r =
    cond (ltb r.count 6)
    (reader Gap r.letter (r.count + 1) 0 (drop 1 r.fields ++ (r.value ∷ [])))
    (spoiled r)

unfoldable pub after_digits : Reader → (byte : ℕ) → Reader
after_digits r byte =
    cond (is_digit byte) (digit_read r (extended r.value byte))
    (cond (eqb byte 32) (field_read r) (spoiled r))

abbrev pub in_phase : Phase → Reader → (byte : ℕ) → Reader
in_phase Start r byte = after_start r byte
in_phase Letter r byte = after_letter r byte
in_phase Gap r byte = after_gap r byte
in_phase Digits r byte = after_digits r byte
in_phase Spoiled r byte = r

unfoldable pub pushed : Reader → (byte : ℕ) → Reader
pushed r byte = in_phase r.phase r byte

-- whether no byte of the line is read
abbrev pub is_empty : Phase → Bool
is_empty Start = true
is_empty Letter = false
is_empty Gap = false
is_empty Digits = false
is_empty Spoiled = false

-- the fields before the value, of which it keeps the last six, and the value
abbrev pub numbers_in : Reader → List ℕ
numbers_in r = drop (6 - r.count) (r.fields ++ (r.value ∷ []))

abbrev pub command_in : {Command : Type 0} → (bad : Command) (make : ℕ → List ℕ → Command) → Phase → Reader → Command
command_in bad make Start r = bad
command_in bad make Letter r = bad
command_in bad make Gap r = bad
command_in bad make Digits r = make r.letter (numbers_in r)
command_in bad make Spoiled r = bad

unfoldable pub command_read : {Command : Type 0} → (bad : Command) (make : ℕ → List ℕ → Command) → Reader → Command
command_read bad make r = command_in bad make r.phase r
