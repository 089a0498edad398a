-- Of 11, 12 and 13, which a replay tests first, the lowest that applies is given (Q-10). 3 is tested after them: AnyLog.
use Rattle.std.specs.Prelude.{◌≡◌, ◌≢◌, List, ℕ}
use Rattle.log_guarantees.specs.LowestFirst.{InOrder, whole_rows}
use Rattle.replay.specs.Replay.{refused, replay}

abbrev pub LowestFirst : Type 0
LowestFirst = (log handles sizes : List ℕ) → InOrder (whole_rows log) (λ n. (n ≢ 3) × (replay log handles sizes ≡ refused n))
