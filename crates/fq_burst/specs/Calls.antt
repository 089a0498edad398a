-- A call as ten 32-bit numbers, in the order of struct obikuteru_fq_call: the clock's low and high half, handle, size, u, kind, and the
-- thirteen bytes of the key in four numbers, low byte first.
use Rattle.std.specs.Prelude.{cond, List, [], ◌∷◌, ℕ, ◌+◌, ◌/◌, ◌%◌, eqb, ltb, get_or}
use Rattle.bursts.specs.Numbers.{clock_at}
use Rattle.fq_guarantees.specs.Handed.{Request, ask_arrival, ask_departure, ask_tick}

pub data Call : Type 0 where
  asked : Request → Call
  -- a kind that is none of those below
  unknown : Call

-- four bytes of the key in each of a, b and c, the last in the low byte of d
abbrev pub key_of : (a b c d : ℕ) → List ℕ
key_of a b c d =
    a % 256
    ∷ (a / 256) % 256
    ∷ (a / 65536) % 256
    ∷ (a / 16777216) % 256
    ∷ b % 256
    ∷ (b / 256) % 256
    ∷ (b / 65536) % 256
    ∷ (b / 16777216) % 256
    ∷ c % 256
    ∷ (c / 256) % 256
    ∷ (c / 65536) % 256
    ∷ (c / 16777216) % 256
    ∷ d % 256
    ∷ []

abbrev pub key_at : (calls : List ℕ) (at : ℕ) → List ℕ
key_at calls at = key_of (get_or calls (at + 6) 0) (get_or calls (at + 7) 0) (get_or calls (at + 8) 0) (get_or calls (at + 9) 0)

-- kind 0: an arrival; 1: one that is ECN-capable; 2: a departure; 3: a tick
abbrev pub call_by : (kind : ℕ) (calls : List ℕ) (at : ℕ) → Call
call_by kind calls at =
    let clock = clock_at calls at in
    let size = get_or calls (at + 3) 0 in
    cond (ltb kind 2) (asked (ask_arrival clock (key_at calls at) (get_or calls (at + 2) 0) size (eqb kind 1) (get_or calls (at + 4) 0)))
    (cond (eqb kind 2) (asked (ask_departure clock))
    (cond (eqb kind 3) (asked (ask_tick clock))
    unknown))

-- the call whose numbers begin at this place
unfoldable pub call_at : (calls : List ℕ) (at : ℕ) → Call
call_at calls at = call_by (get_or calls (at + 5) 0) calls at
