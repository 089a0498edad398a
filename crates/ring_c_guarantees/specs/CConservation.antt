-- Question 3 for C calls: do the queued bytes equal what went in less what came out? From an obikuteru_fresh that is answered 0, on any
-- words and tables, with words and tables handed back untouched.
use Rattle.std.specs.Prelude.{◌≡◌, Bool, true, false, cond, ◌&&◌, ◌≢◌, List, [], ◌∷◌, ℕ, ◌+◌, ◌-◌, ◌≤◌, ◌<◌, eqb, length}
use Rattle.calls.specs.Packets.{bytes_of}
use Rattle.calls.specs.Requests.{Request, ask_arrival, ask_departure, ask_tick}
use Rattle.ring_words.specs.Lent.{Lent, code_to}
use Rattle.ring_c_guarantees.specs.CHanded.{Logged, final_queue, fresh_code, fresh_queue, log_of, queued_in}
use Rattle.ring_c_guarantees.specs.CHanded.{admitted_in, handed_out_in}
use Rattle.ring_c_guarantees.specs.Fields.{bytes_in, count_in, verdicts_in}

abbrev pub is_arrival : Request → Bool
is_arrival (ask_arrival clock handle size ecn u) = true
is_arrival (ask_departure clock) = false
is_arrival (ask_tick clock) = false

-- how many arrivals were answered so
abbrev pub arrivals_answered : (code : ℕ) → List Logged → ℕ
arrivals_answered code [] = 0
arrivals_answered code (e ∷ es) = cond (is_arrival e.asked && eqb code e.code) 1 0 + arrivals_answered code es

pub record CConserved (q : Lent) (log : List Logged) : Type 0 where
  -- the word `bytes`: bytes of the packets admitted − bytes of those handed out, a true difference; and so the word `count`
  pub bytes : bytes_in q.words ≡ bytes_of (admitted_in log) - bytes_of (handed_out_in log)
  pub bytes-cover : bytes_of (handed_out_in log) ≤ bytes_of (admitted_in log)
  pub count : count_in q.words ≡ length (admitted_in log) - length (handed_out_in log)
  pub count-cover : length (handed_out_in log) ≤ length (admitted_in log)
  -- the bytes are those of the packets that the tables hold
  pub held : bytes_in q.words ≡ bytes_of (queued_in q)
  -- verdicts[0] to verdicts[4]: the numbers of arrivals so answered
  pub verdicts : (code : ℕ) → code < 5 → verdicts_in q.words code ≡ arrivals_answered code log
  -- whatever call comes next, it is not answered 102 or 109
  pub never-102 : (r : Request) → code_to q r ≢ 102
  pub never-109 : (r : Request) → code_to q r ≢ 109

abbrev pub CConservation : Type 0
CConservation =
    (given : Lent) (target buffer slots profile clock : ℕ) (requests : List Request) → fresh_code target buffer slots profile clock ≡ 0 →
    let start = fresh_queue given target buffer slots profile clock in CConserved (final_queue start requests) (log_of start requests)
