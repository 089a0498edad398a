-- `compare`: the first log is refused, or compared with the second.
use mathlib.Core.Path.{ap, sym}
use Rattle.call_log.specs.Whole.{read_whole}
use Rattle.compare.specs.Compare.{compare, with_first}
use Rattle.compare.proofs.Whole.{read-refused, read_whole_lem}
use Rattle.compare.proofs.comparing.compare.Goals as goal

pub compare_with-requires : goal.compare_with-requires
compare_with-requires c = let w = read_whole_lem c.args.first.now _ _ (sym c.in-Ok.ensures) in (w.low, w.whole)

pub returns-in-Err : goal.returns-in-Err
unfolding compare
returns-in-Err c = ap (λ r. with_first r (read_whole c.args.second.now)) (sym (read-refused c.args.first.now _ (sym c.in-Err.ensures)))

pub returns-in-Ok : goal.returns-in-Ok
unfolding compare
returns-in-Ok c = let w = read_whole_lem c.args.first.now _ _ (sym c.in-Ok.ensures) in rw w.read c.compare_with.ensures
