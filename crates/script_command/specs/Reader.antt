-- The command that the reader has read.
use Rattle.std.specs.Prelude.{Option, None}
use Rattle.lines.specs.Reader.{command_read}
use Rattle.lines.specs.declared.Reader.{Reader}
use Rattle.script_command.specs.Forms.{command_of}
use Rattle.script_command.specs.declared.Command.{Command}

unfoldable pub finished : Reader → Option Command
finished r = command_read None command_of r
