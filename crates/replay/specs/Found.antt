-- The number that a C caller gets from a replay, and the words of struct obikuteru_replayed, as include/obikuteru.h names them.
use Rattle.std.specs.Prelude.{List, [], ◌∷◌, ℕ, ◌+◌}
use Rattle.replay.specs.Replay.{Replay, accepted, disagrees, refused}
use Rattle.replay.specs.Replied.{replayed_of}

-- 0 where the log is accepted, the first field that disagrees (1 verdict, 2 probability, 3 bytes), 100 and the number of a refusal
abbrev pub code_of : Replay → ℕ
code_of (refused number) = 100 + number
code_of (accepted records q) = 0
code_of (disagrees number field answer q) = field

-- record, refusal, verdict, probability, bytes
abbrev pub words_of : Replay → List ℕ
words_of a = let r = replayed_of a in r.number ∷ r.refusal ∷ r.verdict ∷ r.prob ∷ r.bytes ∷ []
