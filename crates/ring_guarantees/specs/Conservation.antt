-- Question 3: do the queued bytes equal what went in less what came out? From an accepted fresh call, with state and tables handed back
-- untouched.
use Rattle.std.specs.Prelude.{◌≡◌, Bool, false, ◌≢◌, List, ℕ, ◌-◌, ◌≤◌, eqb, get_or, length}
use Rattle.calls.specs.Conservation.{times_given}
use Rattle.calls.specs.Packets.{bytes_of}
use Rattle.pie.specs.Verdicts.{place_of}
use Rattle.pie.specs.declared.Verdict.{Verdict}
use Rattle.ring.specs.declared.Settings.{Settings}
use Rattle.refusals.specs.Answer.{Answer, departed, made, refused, ticked, verdict}
use Rattle.ring.specs.Fresh.{fresh}
use Rattle.calls.specs.Requests.{Request}
use Rattle.ring_guarantees.specs.Handed.{Run, queued, run}
use Rattle.ring.specs.Calls.{answer_of}

abbrev pub is_verdict : Verdict → Answer → Bool
is_verdict v (refused number) = false
is_verdict v made = false
is_verdict v (verdict w) = eqb (place_of v) (place_of w)
is_verdict v (departed handle size) = false
is_verdict v ticked = false

-- how many arrivals were answered so
abbrev pub times_answered : Verdict → List Answer → ℕ
times_answered v answers = times_given (is_verdict v) answers

pub record Conserved (r : Run) : Type 0 where
  -- queued bytes = bytes admitted − bytes departed, a true difference; and so the count
  pub bytes : r.queue.state.backlog.bytes.0 ≡ bytes_of r.admitted - bytes_of r.departed
  pub bytes-cover : bytes_of r.departed ≤ bytes_of r.admitted
  pub count : r.queue.state.backlog.count ≡ length r.admitted - length r.departed
  pub count-cover : length r.departed ≤ length r.admitted
  -- the bytes are those of the packets that the tables hold
  pub held : r.queue.state.backlog.bytes.0 ≡ bytes_of (queued r.queue)
  -- each of the five counts is the number of arrivals so answered
  pub verdicts : (v : Verdict) → get_or r.queue.state.verdicts (place_of v) 0 ≡ times_answered v r.answers
  -- whatever call comes next, it is not refused by 2 or 9
  pub never-2 : (q : Request) → answer_of r.queue q ≢ refused 2
  pub never-9 : (q : Request) → answer_of r.queue q ≢ refused 9

abbrev pub Conservation : Type 0
Conservation =
    (settings : Settings) (clock : ℕ) (handles sizes : List ℕ) (requests : List Request) →
    (fresh settings clock).answer ≡ made → Conserved (run settings clock handles sizes requests)
