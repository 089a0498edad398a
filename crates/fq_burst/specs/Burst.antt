-- What the single entries do with a call on 64 flows, and its bursts.
use Rattle.std.specs.Prelude.{List, ℕ, ◌+◌, ◌*◌}
use Rattle.bursts.specs.Kind.{BurstKind}
use Rattle.fq_state.specs.State.{State}
use Rattle.fq_rules.specs.Answer.{Answer, Reply, flow_in, handle_in, refused, size_in}
use Rattle.fq_guarantees.specs.Calls.{reply}
use Rattle.fq_guarantees.specs.Handed.{Flows, Request, call_of, returned}
use Rattle.fq_words.specs.Codes.{code_of, common_after, deficits_after, flows_after, order_after}
use Rattle.fq_words.specs.Words.{lent}
use Rattle.fq_burst.specs.Calls.{Call, asked, call_at, unknown}

-- the parts of the record and the two tables, as a caller lends them
pub record Lent : Type 0 where
  pub common : List ℕ
  pub order : List ℕ
  pub flows : List ℕ
  pub deficits : List ℕ
  pub handles : List ℕ
  pub sizes : List ℕ

abbrev pub held : (common order flows deficits handles sizes : List ℕ) → Lent
held common order flows deficits handles sizes =
    record { common = common; order = order; flows = flows; deficits = deficits; handles = handles; sizes = sizes }

abbrev pub state_in : Lent → State
state_in q = lent q.common q.order q.deficits q.flows

-- with the tables
abbrev pub flows_in : Lent → Flows
flows_in q = record { state = state_in q; handles = q.handles; sizes = q.sizes }

-- the reply of the single entry
abbrev pub reply_to : Lent → Request → Reply
reply_to q r = reply (state_in q) (call_of (flows_in q) r)

-- the answer to a call; no entry takes an unknown one: refusal 20
abbrev pub answer_to : Lent → Call → Answer
answer_to q (asked r) = (reply_to q r).answer
answer_to q unknown = refused 20

-- what is left: the words and tables that the single entry leaves
abbrev pub after : Lent → Call → Lent
after q (asked r) =
    let a = reply_to q r in
    let next = returned (flows_in q) r a in
    held
    (common_after a q.common)
    (order_after a q.order)
    (flows_after a q.flows)
    (deficits_after a q.deficits)
    next.handles
    next.sizes
after q unknown = q

-- an answer as a word: its code, then the flow, the size and the handle that a departure hands out
abbrev pub answer_word : Answer → ℕ
answer_word a = code_of a + 256 * flow_in a + 65536 * size_in a + 4294967296 * handle_in a

-- ten numbers for each call
abbrev pub fq_bursts : BurstKind
fq_bursts =
    record {
      kind = record { State = Lent; Call = Call; Answer = Answer; answer = answer_to; next = after };
      word = answer_word;
      numbers = 10;
      call_at = call_at;
    }
