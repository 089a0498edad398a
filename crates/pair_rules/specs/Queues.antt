-- 10, 13: the two queues, and the slots that are common to both.
use Rattle.std.specs.Prelude.{ℕ, ◌+◌, ◌-◌}
use Rattle.store.specs.declared.Store.{Store}
use Rattle.pair_rules.specs.declared.Pair.{Pair}
use Rattle.pair_rules.specs.declared.Shared.{Shared}
use Rattle.pair_rules.specs.declared.State.{State}
use Rattle.pair_rules.specs.declared.Which.{Which}
use Rattle.pair_rules.specs.declared.Which.TheVariants.{Intercom, Passengers}

-- 10: the queue that a call names, the other one, and the reserve of the one that it names
abbrev pub own : Which → Pair → State
own Intercom p = p.intercom
own Passengers p = p.passengers

abbrev pub other : Which → Pair → State
other Intercom p = p.passengers
other Passengers p = p.intercom

abbrev pub reserve_of : Which → Shared → ℕ
reserve_of Intercom s = s.reserves.intercom
reserve_of Passengers s = s.reserves.passengers

-- the three records, by the queue that a call names and the other one
abbrev pub paired : Which → Shared → (own other : State) → Pair
paired Intercom shared own other = record { shared = shared; intercom = own; passengers = other }
paired Passengers shared own other = record { shared = shared; intercom = other; passengers = own }

-- slots and reserves never change: the shared record with this store
abbrev pub storing : Shared → Store → Shared
storing s store = record { slots = s.slots; reserves = s.reserves; store = store }

-- 13: what no queue has for itself
abbrev pub common_slots : Shared → ℕ
common_slots s = s.slots - (s.reserves.intercom + s.reserves.passengers)

-- 13: the sum, over both queues, of count less reserve; a difference of natural numbers is 0 where it is not positive
abbrev pub common_use : Pair → ℕ
common_use p =
    (p.intercom.backlog.count - p.shared.reserves.intercom)
    + (p.passengers.backlog.count - p.shared.reserves.passengers)
