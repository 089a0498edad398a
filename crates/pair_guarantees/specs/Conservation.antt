-- Do a queue's bytes equal what went in less what came out? From an accepted fresh call, with records and tables handed back untouched,
-- whatever the other queue's calls are.
use Rattle.std.specs.Prelude.{◌≡◌, Bool, cond, false, ◌≢◌, List, ℕ, ◌-◌, ◌≤◌, get_or, length}
use Rattle.calls.specs.Conservation.{times_given}
use Rattle.calls.specs.Packets.{bytes_of}
use Rattle.ring_guarantees.specs.Conservation as ring
use Rattle.calls.specs.Requests.{Request}
use Rattle.pie.specs.Verdicts.{place_of}
use Rattle.pie.specs.declared.Verdict.{Verdict}
use Rattle.refusals.specs.Answer.{made, refused}
use Rattle.pair_rules.specs.Fresh.{fresh}
use Rattle.pair_rules.specs.Queues.{own}
use Rattle.pair_rules.specs.declared.Setup.{Setup}
use Rattle.pair_rules.specs.declared.Which.{Which}
use Rattle.pair_guarantees.specs.Handed.{Answered, Call, Run, queued, reply_to, run, same}

-- the answer to an own arrival is this verdict
abbrev pub is_verdict : Which → Verdict → Answered → Bool
is_verdict w v a = cond (same w a.queue) (ring.is_verdict v a.answer) false

pub record Conserved (w : Which) (r : Run w) : Type 0 where
  -- queued bytes = bytes admitted − bytes departed, a true difference; and so the count
  pub bytes : (own w r.queue.pair).backlog.bytes.0 ≡ bytes_of r.admitted - bytes_of r.departed
  pub bytes-cover : bytes_of r.departed ≤ bytes_of r.admitted
  pub count : (own w r.queue.pair).backlog.count ≡ length r.admitted - length r.departed
  pub count-cover : length r.departed ≤ length r.admitted
  -- the bytes are those of the packets that its chain holds
  pub held : (own w r.queue.pair).backlog.bytes.0 ≡ bytes_of (queued w r.queue)
  -- each of its five counts is the number of its arrivals so answered
  pub verdicts : (v : Verdict) → get_or (own w r.queue.pair).verdicts (place_of v) 0 ≡ times_given (is_verdict w v) r.answers
  -- whatever its next call is, it is not refused by 2 or 9
  pub never-2 : (asked : Request) → (reply_to r.queue w asked).answer ≢ refused 2
  pub never-9 : (asked : Request) → (reply_to r.queue w asked).answer ≢ refused 9

abbrev pub Conservation : Type 0
Conservation =
    (w : Which) (slots : ℕ) (intercom passengers : Setup) (handles sizes : List ℕ) (calls : List Call) →
    (fresh slots intercom passengers).answer ≡ made → Conserved w (run w slots intercom passengers handles sizes calls)
