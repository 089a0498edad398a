-- A line, without its newline, read as a command, or as none, which is a bad line.
use Rattle.std.specs.Prelude.{List, ℕ, Option, None}
use Rattle.lines.specs.Line.{line_read}
use Rattle.script_command.specs.Forms.{command_of}
use Rattle.script_command.specs.declared.Command.{Command}

unfoldable pub read_line : List ℕ → Option Command
read_line line = line_read None command_of line
