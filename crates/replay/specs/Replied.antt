-- What a replay hands back: numbers, and the two tables.
use Rattle.std.specs.Prelude.{List, ℕ, Result, Ok, Err}
use Rattle.ring.specs.declared.State.{State}
use Rattle.replay.specs.Agreement.{refusal_in, verdict_in}
use Rattle.replay.specs.Replay.{Replay, accepted, disagrees, refused}
use Rattle.replay.specs.Told.{field_number, refusal_number, refusal_told, verdict_told}
use Rattle.replay.specs.declared.Refusal.{Refusal as Unreplayed}
use Rattle.replay.specs.declared.Replayed.{Replayed}

-- what is handed back, in numbers
pub record Handed : Type 0 where
  pub refused : ℕ
  pub field : ℕ
  pub number : ℕ
  pub refusal : ℕ
  pub verdict : ℕ
  pub prob : ℕ
  pub bytes : ℕ

-- probability and bytes of a state
abbrev pub prob_in : State → ℕ
prob_in s = s.pie.prob.0

abbrev pub bytes_in : State → ℕ
bytes_in s = s.backlog.bytes.0

-- refused: the number alone. Accepted: the number of records, probability and bytes after the last call. Disagrees: the field, the
-- record's number, and by the rules the refusal or verdict of that call, probability and bytes after it
abbrev pub replayed_of : Replay → Handed
replayed_of (refused number) =
    record { refused = number; field = 0; number = 0; refusal = 0; verdict = 0; prob = 0; bytes = 0 }
replayed_of (accepted records q) =
    record { refused = 0; field = 0; number = records; refusal = 0; verdict = 0; prob = prob_in q.state; bytes = bytes_in q.state }
replayed_of (disagrees number field answer q) =
    record {
      refused = 0;
      field = field;
      number = number;
      refusal = refusal_in answer;
      verdict = verdict_in answer;
      prob = prob_in q.state;
      bytes = bytes_in q.state;
    }

-- the same of the library's own value
abbrev pub handed_of : Result Replayed Unreplayed → Handed
handed_of (Ok r) =
    record {
      refused = 0;
      field = field_number r.field;
      number = r.number;
      refusal = refusal_told r.answer;
      verdict = verdict_told r.answer;
      prob = r.prob;
      bytes = r.bytes;
    }
handed_of (Err r) =
    record { refused = refusal_number r; field = 0; number = 0; refusal = 0; verdict = 0; prob = 0; bytes = 0 }

-- the tables afterwards: what the rules wrote, the disagreeing call included; a refused log leaves them untouched
abbrev pub handles_after : Replay → (handles : List ℕ) → List ℕ
handles_after (refused number) handles = handles
handles_after (accepted records q) handles = q.handles
handles_after (disagrees number field answer q) handles = q.handles

abbrev pub sizes_after : Replay → (sizes : List ℕ) → List ℕ
sizes_after (refused number) sizes = sizes
sizes_after (accepted records q) sizes = q.sizes
sizes_after (disagrees number field answer q) sizes = q.sizes
