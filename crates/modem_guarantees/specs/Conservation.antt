-- Conservation: from an accepted fresh call, with state, row and tables handed back untouched, the queued bytes are what went in less what
-- came out, and each of the row's counts is the number of answers so given.
use Rattle.std.specs.Prelude.{◌≡◌, Bool, false, ◌≢◌, List, ℕ, ◌-◌, ◌≤◌, eqb, get_or, length}
use Rattle.calls.specs.Conservation.{times_given}
use Rattle.calls.specs.Packets.{bytes_of}
use Rattle.pie.specs.Verdicts.{place_of}
use Rattle.pie.specs.declared.Verdict.{Verdict}
use Rattle.pie.specs.declared.Verdict.TheVariants.{Marked}
use Rattle.refusals.specs.Answer.{Answer, departed, made, refused, ticked, verdict}
use Rattle.modem_flow.specs.declared.Settings.{Settings}
use Rattle.modem_flow.specs.Fresh.{fresh}
use Rattle.modem.specs.Asked.{Request}
use Rattle.modem_guarantees.specs.Handed.{Run, answer_of, queued, run}

abbrev pub is_verdict : Verdict → Answer → Bool
is_verdict v (refused number) = false
is_verdict v made = false
is_verdict v (verdict w) = eqb (place_of v) (place_of w)
is_verdict v (departed handle size) = false
is_verdict v ticked = false

-- how many arrivals were answered so
abbrev pub times_answered : Verdict → List Answer → ℕ
times_answered v answers = times_given (is_verdict v) answers

pub record Conserved (r : Run) : Type 0 where
  -- queued bytes = bytes admitted − bytes departed, a true difference; and so the count
  pub bytes : r.queue.state.backlog.bytes.0 ≡ bytes_of r.admitted - bytes_of r.departed
  pub bytes-cover : bytes_of r.departed ≤ bytes_of r.admitted
  pub count : r.queue.state.backlog.count ≡ length r.admitted - length r.departed
  pub count-cover : length r.departed ≤ length r.admitted
  -- the bytes are those of the packets that the tables hold
  pub held : r.queue.state.backlog.bytes.0 ≡ bytes_of (queued r.queue)
  -- each of the row's counts is the number of arrivals so answered, and the marked count stays 0
  pub verdicts : (v : Verdict) → get_or r.queue.row (place_of v) 0 ≡ times_answered v r.answers
  pub marked : get_or r.queue.row (place_of Marked) 0 ≡ 0
  -- whatever call comes next, it is not refused by 2 or 9
  pub never-2 : (q : Request) → answer_of r.queue q ≢ refused 2
  pub never-9 : (q : Request) → answer_of r.queue q ≢ refused 9

abbrev pub Conservation : Type 0
Conservation =
    (settings : Settings) (clock : ℕ) (handles sizes : List ℕ) (requests : List Request) →
    (fresh settings clock).answer ≡ made → Conserved (run settings clock handles sizes requests)
