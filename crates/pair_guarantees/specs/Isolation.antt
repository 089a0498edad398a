-- Isolation: no call of the other queue changes what a queue answers, as long as the queue's count is below its reserve wherever a packet
-- arrives at it. Take two accepted fresh pairs, the same for this queue, any for the other; tables of the same lengths, with any contents;
-- and two lists of calls that are the same for this queue, in the same order. If its count is below its reserve at each of its arrivals in
-- the first, then it is so in the second too; its answers, with handles and sizes, are the same in both; and so is its state but for head
-- and tail.
use Rattle.std.specs.Prelude.{◌≡◌, Bool, true, false, cond, ℕ, ◌<◌, length}
use mathlib.Core.List.{List, [], ◌∷◌, foldl, map}
use Rattle.laws.specs.Every.{Every}
use Rattle.calls.specs.Traces.{Entry, trace}
use Rattle.calls.specs.Requests.{Request, ask_arrival, ask_departure, ask_tick}
use Rattle.refusals.specs.Answer.{Answer, made}
use Rattle.store.specs.Fresh.{fresh_ends}
use Rattle.pair_rules.specs.Answer.{Reply}
use Rattle.pair_rules.specs.Fresh.{fresh}
use Rattle.pair_rules.specs.Queues.{own, reserve_of}
use Rattle.pair_rules.specs.declared.Setup.{Setup}
use Rattle.pair_rules.specs.declared.State.{State}
use Rattle.pair_rules.specs.declared.Which.{Which}
use Rattle.pair_rules.specs.declared.Which.TheVariants.{Intercom, Passengers}
use Rattle.pair_guarantees.specs.Handed.{Answered, Call, Queues, after, same, two_queues}

-- a fresh call, by what it is told of this queue and of the other
abbrev pub fresh_for : Which → (slots : ℕ) (mine others : Setup) → Reply
fresh_for Intercom slots mine others = fresh slots mine others
fresh_for Passengers slots mine others = fresh slots others mine

abbrev pub begin : Which → (slots : ℕ) (mine others : Setup) (handles sizes : List ℕ) → Queues
begin w slots mine others handles sizes = record { pair = (fresh_for w slots mine others).pair; handles = handles; sizes = sizes }

-- a queue's own calls of a list, and the answers that they got
abbrev pub own_calls : Which → List Call → List Request
own_calls w [] = []
own_calls w (c ∷ calls) = cond (same w c.queue) (c.asked ∷ own_calls w calls) (own_calls w calls)

abbrev pub own_answers : Which → List Answered → List Answer
own_answers w [] = []
own_answers w (a ∷ answers) = cond (same w a.queue) (a.answer ∷ own_answers w answers) (own_answers w answers)

abbrev pub answers_in : Which → Queues → List Call → List Answer
answers_in w q calls = own_answers w (map (λ e. e.answer) (trace two_queues q calls))

-- its state at the end, but for head and tail
abbrev pub without_ends : State → State
without_ends s =
    record {
      settings = s.settings;
      clock = s.clock;
      last = s.last;
      pie = s.pie;
      backlog = s.backlog;
      ends = fresh_ends;
      verdicts = s.verdicts;
    }

abbrev pub state_after : Which → Queues → List Call → State
state_after w q calls = without_ends (own w (foldl after q calls).pair)

abbrev pub is_arrival : Request → Bool
is_arrival (ask_arrival clock handle size ecn u) = true
is_arrival (ask_departure clock) = false
is_arrival (ask_tick clock) = false

-- if the entry is an own arrival, the queue's count was below its reserve
abbrev pub BelowReserve : Which → Entry two_queues → Type 0
BelowReserve w e =
    let p = e.given.pair in
    same w e.call.queue ≡ true → is_arrival e.call.asked ≡ true → (own w p).backlog.count < reserve_of w p.shared

pub record Isolated (w : Which) (first second : Queues) (calls calls' : List Call) : Type 0 where
  pub below : Every (BelowReserve w) (trace two_queues second calls')
  pub answers : answers_in w first calls ≡ answers_in w second calls'
  pub state : state_after w first calls ≡ state_after w second calls'

abbrev pub Isolation : Type 0
Isolation =
    (w : Which) (slots : ℕ) (mine others others' : Setup) (handles sizes handles' sizes' : List ℕ) (calls calls' : List Call) →
    let first = begin w slots mine others handles sizes in
    let second = begin w slots mine others' handles' sizes' in
    (fresh_for w slots mine others).answer ≡ made → (fresh_for w slots mine others').answer ≡ made →
    length handles ≡ length handles' → length sizes ≡ length sizes' →
    own_calls w calls ≡ own_calls w calls' →
    Every (BelowReserve w) (trace two_queues first calls) →
    Isolated w first second calls calls'
