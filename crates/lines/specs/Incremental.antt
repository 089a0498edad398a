-- Reading a line byte by byte is reading it whole, for any table of forms.
use Rattle.std.specs.Prelude.{◌≡◌, true, ℕ}
use mathlib.Core.List.{List, foldl}
use Rattle.lines.specs.Forms.{Form, formed, readable}
use Rattle.lines.specs.Line.{line_read}
use Rattle.lines.specs.Reader.{begun, command_read, pushed}

abbrev pub ReadsLinesOf : {Command : Type 0} → (bad : Command) → List (Form Command) → Type 0
ReadsLinesOf bad forms =
    (line : List ℕ) → command_read bad (formed bad forms) (foldl pushed begun line) ≡ line_read bad (formed bad forms) line

abbrev pub ReadsAnyLines : Type 1
ReadsAnyLines = (Command : Type 0) (bad : Command) (forms : List (Form Command)) → readable forms ≡ true → ReadsLinesOf bad forms
