-- A queue whose words and tables are handed back untouched at each C call, and the log of its calls. What a call answers, writes and leaves
-- is what its entry promises (crates/ring_c/src/lib.rt).
use Rattle.std.specs.Prelude.{cond, ℕ, ◌+◌, ◌%◌, eqb, ltb, get_or}
use mathlib.Core.List.{List, [], ◌∷◌, ◌++◌, foldl}
use Rattle.ring.specs.Fresh.{fresh, settings_of}
use Rattle.refusals.specs.Codes.{code_of}
use Rattle.ring_words.specs.Words.{state_words}
use Rattle.calls.specs.Packets.{Packet}
use Rattle.calls.specs.Ring.{listed}
use Rattle.calls.specs.Requests.{Request, ask_arrival, ask_departure, ask_tick, brought}
use Rattle.ring_words.specs.Lent.{packet_written}
use Rattle.ring_c_guarantees.specs.Fields.{count_in, first_in, slots_in}
use Rattle.ring_words.specs.Lent.{Lent, call_to, code_to, leaves}

-- what obikuteru_fresh answers, and the queue that it makes of any words and tables
abbrev pub fresh_code : (target buffer slots profile clock : ℕ) → ℕ
fresh_code target buffer slots profile clock = code_of (fresh (settings_of target buffer slots profile) clock).answer

abbrev pub fresh_queue : Lent → (target buffer slots profile clock : ℕ) → Lent
fresh_queue q target buffer slots profile clock =
    record {
      words = state_words [] (fresh (settings_of target buffer slots profile) clock).state;
      handles = q.handles;
      sizes = q.sizes;
    }

abbrev pub final_queue : Lent → List Request → Lent
final_queue q requests = foldl leaves q requests

-- ── the log ──

-- one call: what was asked, the number that it answered, and the packet that it wrote
pub record Logged : Type 0 where
  pub asked : Request
  pub code : ℕ
  pub packet : List ℕ

abbrev pub logged : Lent → Request → Logged
logged q r = record { asked = r; code = code_to q r; packet = packet_written q.words (call_to q r) }

abbrev pub log_of : Lent → List Request → List Logged
log_of q [] = []
log_of q (r ∷ rs) = logged q r ∷ log_of (leaves q r) rs

-- the packet of an arrival that is answered 0 or 1
abbrev pub admitted_at : Logged → List Packet
admitted_at e = cond (ltb e.code 2) (brought e.asked) []

abbrev pub admitted_in : List Logged → List Packet
admitted_in [] = []
admitted_in (e ∷ es) = admitted_at e ++ admitted_in es

-- the packet that a departure writes
abbrev pub written : Request → (packet : List ℕ) → List Packet
written (ask_arrival clock handle size ecn u) packet = []
written (ask_departure clock) packet = record { handle = get_or packet 0 0; size = get_or packet 1 0 } ∷ []
written (ask_tick clock) packet = []

-- the packet of a departure that is answered 0
abbrev pub handed_out_at : Logged → List Packet
handed_out_at e = cond (eqb e.code 0) (written e.asked e.packet) []

abbrev pub handed_out_in : List Logged → List Packet
handed_out_in [] = []
handed_out_in (e ∷ es) = handed_out_at e ++ handed_out_in es

-- ── the packets in the tables ──

abbrev pub c_packet_at : Lent → (i : ℕ) → Packet
c_packet_at q i =
    let place = (first_in q.words + i) % slots_in q.words in
    record { handle = get_or q.handles place 0; size = get_or q.sizes place 0 }

-- the queued packets, head first
abbrev pub queued_in : Lent → List Packet
queued_in q = listed (count_in q.words) (c_packet_at q)
