-- A modem: up to sixteen flows, each with a state and two tables of its own, and one table of counts. Its calls, fresh ones among them,
-- name their flow and come in any order; states, tables and counts are handed back untouched.
use Rattle.std.specs.Prelude.{cond, List, ℕ, eqb}
use Rattle.calls.specs.Kind.{Kind}
use Rattle.calls.specs.Parts.{Part, another, own}
use Rattle.refusals.specs.Answer.{Answer}
use Rattle.modem_flow.specs.Answer.{Reply}
use Rattle.modem_flow.specs.Fresh as one-flow
use Rattle.modem.specs.Answer.{ModemReply}
use Rattle.modem.specs.Asked.{Asked, Flow, ask, flow_after, modem_reply, start}
use Rattle.modem.specs.Counts.{row_of}
use Rattle.modem_guarantees.specs.Handed.{Queue, call_of, returned, row_after}
use Rattle.modem_guarantees.specs.Calls as flow-calls

pub record Modem : Type 0 where
  pub flows : (flow : ℕ) → Flow
  pub counts : List (List ℕ)

pub record Call : Type 0 where
  pub flow : ℕ
  pub asked : Asked

-- ── a call to the modem ──

abbrev pub reply_to : Modem → Call → ModemReply
reply_to m c = modem_reply (m.flows c.flow) m.counts c.flow c.asked

abbrev pub modem_after : Modem → Call → Modem
modem_after m c =
    record {
      flows = λ j. cond (eqb j c.flow) (flow_after (m.flows c.flow) c.asked (reply_to m c)) (m.flows j);
      counts = (reply_to m c).counts;
    }

abbrev pub modem : Kind
modem = record { State = Modem; Call = Call; Answer = Answer; answer = λ m c. (reply_to m c).answer; next = modem_after }

-- ── a call to a flow that is alone, with its own row ──

abbrev pub alone_reply : Queue → Asked → Reply
alone_reply q (start settings clock) = one-flow.fresh settings clock
alone_reply q (ask r) = flow-calls.reply q.state (call_of q r)

abbrev pub alone_after : Queue → Asked → Queue
alone_after q (start settings clock) =
    let r = one-flow.fresh settings clock in
    record { state = r.state; row = row_after r.answer q.row; handles = q.handles; sizes = q.sizes }
alone_after q (ask r) = returned q r (flow-calls.reply q.state (call_of q r))

abbrev pub alone : Kind
alone = record { State = Queue; Call = Asked; Answer = Answer; answer = λ q a. (alone_reply q a).answer; next = alone_after }

-- what a modem holds of a flow: its state and its tables, and its row of the counts
abbrev pub view : (flow : ℕ) → Modem → Queue
view flow m =
    let f = m.flows flow in record { state = f.state; row = row_of m.counts flow; handles = f.handles; sizes = f.sizes }

-- a flow as a part of the modem: its own calls are those that name it
abbrev pub flow_part : (flow : ℕ) → Part modem alone
flow_part flow = record { state = view flow; answer = λ a. a; whose = λ c. cond (eqb flow c.flow) (own c.asked) another }
