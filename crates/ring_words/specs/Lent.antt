-- A queue as a C caller lends it, and what a call answers, writes and leaves: the entries, the bursts, the replay and the theorems for C calls
-- cite these.
use Rattle.std.specs.Prelude.{List, [], ℕ}
use Rattle.refusals.specs.Answer.{Answer}
use Rattle.refusals.specs.Codes.{code_of, packet_of}
use Rattle.calls.specs.Requests.{Request}
use Rattle.ring.specs.Answer.{Reply}
use Rattle.ring.specs.Calls.{Call, Queue, arrive, call_of, depart, reply, returned, update}
use Rattle.ring_words.specs.Codes.{words_after}
use Rattle.ring_words.specs.Words.{state_of}

-- ── a call, with any tables ──

-- the number that it answers
abbrev pub code_given : (words : List ℕ) → Call → ℕ
code_given w c = code_of (reply (state_of w) c).answer

-- the words that it leaves
abbrev pub words_left : (words : List ℕ) → Call → List ℕ
words_left w c = words_after (reply (state_of w) c) w

-- the handle and the size that a departure with this answer writes to its packet; no other call is lent one
abbrev pub packet_for : Call → Answer → List ℕ
packet_for (arrive handles sizes clock handle size ecn u) a = []
packet_for (depart handles sizes clock) a = packet_of a
packet_for (update clock) a = []

abbrev pub packet_written : (words : List ℕ) → Call → List ℕ
packet_written w c = packet_for c (reply (state_of w) c).answer

-- ── a request, with the queue's own tables ──

-- the words of the state and the two tables
pub record Lent : Type 0 where
  pub words : List ℕ
  pub handles : List ℕ
  pub sizes : List ℕ

abbrev pub lent : (words handles sizes : List ℕ) → Lent
lent words handles sizes = record { words = words; handles = handles; sizes = sizes }

-- the queue that the words and the tables hold
abbrev pub queue_of : Lent → Queue
queue_of q = record { state = state_of q.words; handles = q.handles; sizes = q.sizes }

-- the C call that a request makes
abbrev pub call_to : Lent → Request → Call
call_to q r = call_of (queue_of q) r

abbrev pub reply_to : Lent → Request → Reply
reply_to q r = reply (state_of q.words) (call_to q r)

abbrev pub code_to : Lent → Request → ℕ
code_to q r = code_given q.words (call_to q r)

-- the words and tables that it leaves
abbrev pub leaves : Lent → Request → Lent
leaves q r =
    let next = returned (queue_of q) r (reply_to q r) in
    record { words = words_left q.words (call_to q r); handles = next.handles; sizes = next.sizes }
