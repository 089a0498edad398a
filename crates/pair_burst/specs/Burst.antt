-- What the single entries do with a call on one of two queues, and their bursts.
use Rattle.std.specs.Prelude.{false, List, ℕ}
use Rattle.bursts.specs.Answers.{answer_word}
use Rattle.bursts.specs.Kind.{BurstKind}
use Rattle.refusals.specs.Answer.{Answer, refused}
use Rattle.calls.specs.Requests.{Request, ask_arrival, ask_departure, ask_tick}
use Rattle.pair_rules.specs.Answer.{Reply}
use Rattle.pair_rules.specs.declared.Which.{Which}
use Rattle.pair_rules.specs.declared.Which.TheVariants.{Intercom, Passengers}
use Rattle.pair_guarantees.specs.Handed.{Queues, reply_to, returned}
use Rattle.pair_words.specs.After.{own_after, shared_after}
use Rattle.pair_words.specs.Words.{pair_of}
use Rattle.pair_burst.specs.Calls.{Call, asked, call_at, unknown}

-- the words of the three records and the two tables, as a caller lends them
pub record Lent : Type 0 where
  pub shared : List ℕ
  pub intercom : List ℕ
  pub passengers : List ℕ
  pub handles : List ℕ
  pub sizes : List ℕ

-- by the queue that a call names and the other one
abbrev pub lent : Which → (shared own other handles sizes : List ℕ) → Lent
lent Intercom shared own other handles sizes =
    record { shared = shared; intercom = own; passengers = other; handles = handles; sizes = sizes }
lent Passengers shared own other handles sizes =
    record { shared = shared; intercom = other; passengers = own; handles = handles; sizes = sizes }

abbrev pub own_words : Which → Lent → List ℕ
own_words Intercom q = q.intercom
own_words Passengers q = q.passengers

abbrev pub other_words : Which → Lent → List ℕ
other_words Intercom q = q.passengers
other_words Passengers q = q.intercom

-- the records that the words hold, and the tables
abbrev pub queues_of : Lent → Queues
queues_of q = record { pair = pair_of false q.shared q.intercom q.passengers; handles = q.handles; sizes = q.sizes }

-- the shared record's words: a tick is lent them to read alone
abbrev pub shared_left : Request → Reply → (words : List ℕ) → List ℕ
shared_left (ask_arrival clock handle size ecn u) a words = shared_after a words
shared_left (ask_departure clock) a words = shared_after a words
shared_left (ask_tick clock) a words = words

-- the answer to a call; no entry takes an unknown one: refusal 20
abbrev pub answer_to : Lent → Call → Answer
answer_to q (asked w r) = (reply_to (queues_of q) w r).answer
answer_to q unknown = refused 20

-- what is left: the words and tables that the single entry leaves
abbrev pub after : Lent → Call → Lent
after q (asked w r) =
    let a = reply_to (queues_of q) w r in
    let next = returned (queues_of q) w r a in
    lent w (shared_left r a q.shared) (own_after w a (own_words w q)) (other_words w q) next.handles next.sizes
after q unknown = q

-- six numbers for each call
abbrev pub pair_bursts : BurstKind
pair_bursts =
    record {
      kind = record { State = Lent; Call = Call; Answer = Answer; answer = answer_to; next = after };
      word = answer_word;
      numbers = 6;
      call_at = call_at;
    }
