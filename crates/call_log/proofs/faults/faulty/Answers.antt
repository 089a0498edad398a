-- `faulty` meets its contract.
use mathlib.Core.Path.{ap}
use mathlib.Core.Bool.{not}
use native.Mathlib.Omega.{arith}
use lib.Dec.{eqb, leb}
use borrow.Author.Tests.{eqb-true, ne_eqb}
use Rattle.units.specs.Kinds.{whole}
use Rattle.pie.specs.Constants.{latest}
use Rattle.call_log.specs.Faults.{arrival, departure, faulty, most_bytes, tick}
use Rattle.call_log.proofs.Choices.{joined}
use Rattle.call_log.proofs.faults.faulty.Goals as goal

pub returns : goal.returns
unfolding faulty
returns c =
    let r = c.args.r in
    ap not (joined
    (arrival r)
    (departure r)
    (tick r)
    (leb r.ecn 1)
    (eqb r.ecn 0)
    (eqb r.unused 0)
    (eqb r.handle 0)
    (leb r.clock latest)
    (leb 1 r.size)
    (leb r.size 65535)
    (eqb r.size 0)
    (eqb r.u 0)
    (leb r.verdict 4)
    (eqb r.verdict 0)
    (leb r.bytes most_bytes)
    (leb r.prob whole)
    (λ e. let k = eqb-true r.kind 97 e in ne_eqb r.kind 100 (λ d. omega arith))
    (λ e. let k = eqb-true r.kind 97 e in ne_eqb r.kind 116 (λ d. omega arith)))
