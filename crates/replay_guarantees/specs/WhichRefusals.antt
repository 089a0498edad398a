-- A recorded call that the rules refuse during a replay, of any log that the reader accepts, is refused by 4, 5 or 6 (Q-10): the log's
-- records have no fault, the replay's state, tables and counts are its own, and a log holds too few calls to fill the counts.
use Rattle.std.specs.Prelude.{◌≡◌, List, ℕ, ◌≤◌}
use Rattle.refusals.specs.Answer.{refused}
use Rattle.ring.specs.Calls.{Queue}
use Rattle.replay.specs.Replay.{disagrees, replay}

abbrev pub WhichRefusals : Type 0
WhichRefusals =
    (log handles sizes : List ℕ) (number field n : ℕ) (left : Queue) →
    -- at the record of this number the rules refuse the recorded call by n
    replay log handles sizes ≡ disagrees number field (refused n) left →
    (4 ≤ n) × (n ≤ 6)
