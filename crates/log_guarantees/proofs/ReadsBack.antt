-- What was accepted reads back.
use Rattle.log_guarantees.specs.ReadsBack.{ReadsBack}
use Rattle.log_guarantees.specs.Run.{log_of, run}
use Rattle.log_guarantees.proofs.AlwaysWhole.{always-whole}
use Rattle.log_guarantees.proofs.InTurn.{in-turn}

pub reads-back : ReadsBack
reads-back h note bytes rs f z =
    let r = run h note bytes rs in in-turn (log_of r) (record { header = h; note = note; records = r.accepted }) (always-whole h note bytes rs f z).read
