-- From obikuteru_fresh on any words and tables, each C call given the words and tables that the last one left: words, tables, numbers and
-- packets are those of the run over states.
use Rattle.std.specs.Prelude.{◌≡◌, List, map, ℕ}
use Rattle.ring.specs.Fresh.{settings_of}
use Rattle.refusals.specs.Codes.{code_of}
use Rattle.calls.specs.Requests.{Request}
use Rattle.ring_guarantees.specs.Handed.{Run, run}
use Rattle.ring_words.specs.Lent.{Lent, queue_of}
use Rattle.ring_c_guarantees.specs.CHanded.{Logged, admitted_in, final_queue, fresh_queue, handed_out_in, log_of}

pub record SameRun (q : Lent) (log : List Logged) (r : Run) : Type 0 where
  -- the state that the words hold, and the tables
  pub queue : queue_of q ≡ r.queue
  pub codes : map (λ e. e.code) log ≡ map code_of r.answers
  -- the packets of the arrivals answered 0 or 1, and those that departures answered 0 wrote
  pub admitted : admitted_in log ≡ r.admitted
  pub departed : handed_out_in log ≡ r.departed

abbrev pub RunsJoined : Type 0
RunsJoined =
    (given : Lent) (target buffer slots profile clock : ℕ) (requests : List Request) →
    let start = fresh_queue given target buffer slots profile clock in
    SameRun (final_queue start requests) (log_of start requests)
    (run (settings_of target buffer slots profile) clock given.handles given.sizes requests)
