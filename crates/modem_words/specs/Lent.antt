-- A flow as a caller lends it, and what a C call answers and leaves.
use Rattle.std.specs.Prelude.{List, ℕ}
use Rattle.modem.specs.Answer.{ModemReply}
use Rattle.modem.specs.Asked.{Asked, Flow, flow_after, modem_reply}
use Rattle.modem_words.specs.Words.{state_of, state_words}

-- the words of the state, the counts of all flows and the two tables
pub record Lent : Type 0 where
  pub words : List ℕ
  pub counts : List (List ℕ)
  pub handles : List ℕ
  pub sizes : List ℕ

abbrev pub lent : (words : List ℕ) (counts : List (List ℕ)) (handles sizes : List ℕ) → Lent
lent words counts handles sizes = record { words = words; counts = counts; handles = handles; sizes = sizes }

-- the flow that the words hold
abbrev pub flow_of : Lent → Flow
flow_of q = record { state = state_of q.words; handles = q.handles; sizes = q.sizes }

-- the reply of the entry
abbrev pub reply_to : (flow : ℕ) → Lent → Asked → ModemReply
reply_to flow q a = modem_reply (flow_of q) q.counts flow a

-- the words, counts and tables that the entry leaves
abbrev pub leaves : (flow : ℕ) → Lent → Asked → Lent
leaves flow q a =
    let r = reply_to flow q a in
    let next = flow_after (flow_of q) a r in
    lent (state_words next.state) r.counts next.handles next.sizes
