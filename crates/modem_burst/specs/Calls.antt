-- A call as six 32-bit numbers, in the order of struct obikuteru_call: the clock's low and high half, handle, size, u, kind. The credits of
-- a tick stand in the place of the size.
use Rattle.std.specs.Prelude.{cond, List, ℕ, ◌+◌, eqb, get_or}
use Rattle.bursts.specs.Numbers.{clock_at}
use Rattle.modem.specs.Asked.{Request, ask_arrival, ask_departure, ask_tick}

pub data Call : Type 0 where
  asked : Request → Call
  -- a kind that is none of those below
  unknown : Call

abbrev pub arrival_at : (calls : List ℕ) (at : ℕ) → Request
arrival_at calls at = ask_arrival (clock_at calls at) (get_or calls (at + 2) 0) (get_or calls (at + 3) 0) (get_or calls (at + 4) 0)

-- kind 0: an arrival; 2: a departure; 3: a tick. A modem has no ECN: 1 is none of its kinds
abbrev pub call_of_kind : (kind : ℕ) (calls : List ℕ) (at : ℕ) → Call
call_of_kind kind calls at =
    cond (eqb kind 0) (asked (arrival_at calls at))
    (cond (eqb kind 2) (asked (ask_departure (clock_at calls at)))
    (cond (eqb kind 3) (asked (ask_tick (clock_at calls at) (get_or calls (at + 3) 0)))
    unknown))

-- the call whose numbers begin at this place
unfoldable pub call_at : (calls : List ℕ) (at : ℕ) → Call
call_at calls at = call_of_kind (get_or calls (at + 5) 0) calls at
