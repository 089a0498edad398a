-- What the lent tables hold beforehand does not matter: of any log, tables of the same lengths give the same answer (Q-10).
use Rattle.std.specs.Prelude.{◌≡◌, List, ℕ, length}
use Rattle.replay.specs.Replay.{replay}
use Rattle.replay.specs.Replied.{replayed_of}

abbrev pub AnyTables : Type 0
AnyTables =
    (log handles sizes handles' sizes' : List ℕ) → length handles' ≡ length handles → length sizes' ≡ length sizes →
    replayed_of (replay log handles sizes) ≡ replayed_of (replay log handles' sizes')
