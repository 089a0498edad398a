-- Either of two queues keeps what conservation asks for.
use mathlib.Core.Path.{ap}
use Rattle.calls.proofs.Conservation as general
use Rattle.refusals.specs.Answer.{Answer}
use Rattle.pair_rules.specs.declared.Which.{Which}
use Rattle.pair_guarantees.specs.Conservation.{Conservation}
use Rattle.pair_guarantees.specs.Handed.{Answered, one_of_two}
use Rattle.pair_guarantees.proofs.QueueKeeps.{queue-keeps, readings}
use Rattle.pair_guarantees.proofs.Starting.{fresh-empty, fresh-whole}
use Rattle.pair_guarantees.proofs.Whole.{Whole}

abbrev answered : Which → Answer → Answered
answered w a = record { queue = w; answer = a }

pub conservation : Conservation
conservation w slots intercom passengers handles sizes calls e =
    let k =
    general.conservation (one_of_two w) (readings w) Whole (queue-keeps w) _ calls
    (fresh-whole slots intercom passengers e handles sizes) (fresh-empty slots intercom passengers e handles sizes w) in
    record {
      bytes = k.bytes;
      bytes-cover = k.bytes-cover;
      count = k.count;
      count-cover = k.count-cover;
      held = k.held;
      verdicts = k.verdicts;
      never-2 = λ asked t. k.never-2 (record { queue = w; asked = asked }) (ap (answered w) t);
      never-9 = λ asked t. k.never-9 (record { queue = w; asked = asked }) (ap (answered w) t);
    }
