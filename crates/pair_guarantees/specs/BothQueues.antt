-- A list of both queues' calls, in any order, is an instance of each queue's own: the entries of one queue are the trace of its own
-- calls, each given the shared record and the other state as they then stood. So every claim over a queue's own calls holds of them.
use Rattle.std.specs.Prelude.{◌≡◌, Bool, true, false, cond, List, [], ◌∷◌, map}
use Rattle.calls.specs.Traces.{Entry, trace}
use Rattle.pair_rules.specs.Queues.{other, own}
use Rattle.pair_rules.specs.declared.Pair.{Pair}
use Rattle.pair_rules.specs.declared.Which.{Which}
use Rattle.pair_rules.specs.declared.Which.TheVariants.{Intercom, Passengers}
use Rattle.pair_guarantees.specs.Calls.{OwnCall, PairCall, own_calls, pair_calls}

abbrev pub same : (w x : Which) → Bool
same Intercom Intercom = true
same Intercom Passengers = false
same Passengers Intercom = false
same Passengers Passengers = true

-- an entry of a call on the queue w, as one of its own calls
abbrev pub own_entry : (w : Which) → Entry pair_calls → Entry (own_calls w)
own_entry w e =
    record {
      call = record { shared = e.given.shared; other = other w e.given; call = e.call.call };
      given = own w e.given;
      answer = e.answer;
      returned = own w e.returned;
    }

-- the entries of the queue w
abbrev pub own_entries : (w : Which) → List (Entry pair_calls) → List (Entry (own_calls w))
own_entries w [] = []
own_entries w (e ∷ entries) = cond (same w e.call.queue) (own_entry w e ∷ own_entries w entries) (own_entries w entries)

-- its own calls
abbrev pub calls_in : (w : Which) → List (Entry (own_calls w)) → List OwnCall
calls_in w entries = map (λ e. e.call) entries

abbrev pub BothQueues : Type 0
BothQueues =
    (w : Which) (p : Pair) (calls : List PairCall) →
    let entries = own_entries w (trace pair_calls p calls) in entries ≡ trace (own_calls w) (own w p) (calls_in w entries)
