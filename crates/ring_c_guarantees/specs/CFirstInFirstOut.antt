-- Demand 2 over lists of C calls: from an obikuteru_fresh that is answered 0, on any words and tables, with words and tables handed back
-- untouched, the packets of the arrivals answered 0 or 1 are those that departures answered 0 wrote and then those queued in the tables,
-- handle and size, in order.
use Rattle.std.specs.Prelude.{◌≡◌, List, ◌++◌, ℕ}
use Rattle.calls.specs.Requests.{Request}
use Rattle.ring_words.specs.Lent.{Lent}
use Rattle.ring_c_guarantees.specs.CHanded.{Logged, admitted_in, final_queue, fresh_code, fresh_queue, handed_out_in, log_of, queued_in}

abbrev pub CInOrder : Lent → List Logged → Type 0
CInOrder q log = admitted_in log ≡ handed_out_in log ++ queued_in q

abbrev pub CFirstInFirstOut : Type 0
CFirstInFirstOut =
    (given : Lent) (target buffer slots profile clock : ℕ) (requests : List Request) → fresh_code target buffer slots profile clock ≡ 0 →
    let start = fresh_queue given target buffer slots profile clock in CInOrder (final_queue start requests) (log_of start requests)
