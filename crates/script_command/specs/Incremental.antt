-- Reading a line byte by byte is reading it whole.
use Rattle.std.specs.Prelude.{◌≡◌, ℕ}
use mathlib.Core.List.{List, foldl}
use Rattle.lines.specs.Reader.{begun, pushed}
use Rattle.script_command.specs.Line.{read_line}
use Rattle.script_command.specs.Reader.{finished}

abbrev pub ReadsLines : Type 0
ReadsLines = (line : List ℕ) → finished (foldl pushed begun line) ≡ read_line line
