-- `compare_with`: the second log is refused, or compared.
use mathlib.Core.Path.{ap, sym}
use Rattle.compare.specs.Compare.{with_second}
use Rattle.compare.specs.Values.{contents_in}
use Rattle.compare.proofs.Whole.{read-refused, read_whole_lem}
use Rattle.compare.proofs.comparing.compare_with.Goals as goal

pub compare_whole-requires-clause-second_log : goal.compare_whole-requires-clause-second_log
compare_whole-requires-clause-second_log c = let w = read_whole_lem c.args.second.now _ _ (sym c.in-Ok.ensures) in (w.low, w.whole)

pub returns-in-Err : goal.returns-in-Err
returns-in-Err c = ap (with_second (contents_in c.args.first.now c.args.a)) (sym (read-refused c.args.second.now _ (sym c.in-Err.ensures)))

pub returns-in-Ok : goal.returns-in-Ok
returns-in-Ok c = let w = read_whole_lem c.args.second.now _ _ (sym c.in-Ok.ensures) in rw w.read c.compare_whole.ensures
