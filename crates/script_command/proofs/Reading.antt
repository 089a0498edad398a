-- Reading byte by byte is reading whole: the law of any table of forms, at this one.
use Rattle.std.proofs.Common.{Option, None}
use mathlib.Core.Path.{refl}
use Rattle.lines.proofs.Reading.{reads-any-lines}
use Rattle.script_command.specs.Forms.{command_of, forms}
use Rattle.script_command.specs.Incremental.{ReadsLines}
use Rattle.script_command.specs.Line.{read_line}
use Rattle.script_command.specs.Reader.{finished}
use Rattle.script_command.specs.declared.Command.{Command}

pub reads_lines : ReadsLines
unfolding command_of finished read_line
reads_lines line = reads-any-lines (Option Command) None forms refl line
