-- A call as six 32-bit numbers, in the order of struct obikuteru_call: the clock's low and high half, handle, size, u, kind.
use Rattle.std.specs.Prelude.{Bool, cond, List, ℕ, ◌+◌, ◌-◌, eqb, ltb, get_or}
use Rattle.bursts.specs.Numbers.{clock_at}
use Rattle.calls.specs.Requests.{Request, ask_arrival, ask_departure, ask_tick}
use Rattle.pair_rules.specs.declared.Which.{Which}
use Rattle.pair_rules.specs.declared.Which.TheVariants.{Intercom, Passengers}

pub data Call : Type 0 where
  asked : Which → Request → Call
  -- a kind that is none of those below
  unknown : Call

abbrev pub arrival_at : (calls : List ℕ) (at : ℕ) (ecn : Bool) → Request
arrival_at calls at ecn = ask_arrival (clock_at calls at) (get_or calls (at + 2) 0) (get_or calls (at + 3) 0) ecn (get_or calls (at + 4) 0)

-- of a queue: 0, an arrival; 1, one that is ECN-capable; 2, a departure; 3, a tick
unfoldable pub request_at : (kind : ℕ) (calls : List ℕ) (at : ℕ) → Request
request_at kind calls at =
    cond (ltb kind 2) (arrival_at calls at (eqb kind 1))
    (cond (eqb kind 2) (ask_departure (clock_at calls at))
    (ask_tick (clock_at calls at)))

-- kinds 0 to 3 are the intercom's, 4 to 7 the same of the passengers
abbrev pub call_of_kind : (kind : ℕ) (calls : List ℕ) (at : ℕ) → Call
call_of_kind kind calls at =
    cond (ltb kind 4) (asked Intercom (request_at kind calls at))
    (cond (ltb kind 8) (asked Passengers (request_at (kind - 4) calls at))
    unknown)

-- the call whose numbers begin at this place
unfoldable pub call_at : (calls : List ℕ) (at : ℕ) → Call
call_at calls at = call_of_kind (get_or calls (at + 5) 0) calls at
