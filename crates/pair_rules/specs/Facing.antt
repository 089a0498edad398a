-- The shared record as the called queue sees it, for the library's own functions: they treat the called queue as the first.
use Rattle.pair_rules.specs.declared.Shared.{Shared}
use Rattle.pair_rules.specs.declared.Which.{Which}
use Rattle.pair_rules.specs.declared.Which.TheVariants.{Intercom, Passengers}

-- the called queue's reserve in the first place
abbrev pub facing : Which → Shared → Shared
facing Intercom s = s
facing Passengers s =
    record {
      slots = s.slots;
      reserves = record { intercom = s.reserves.passengers; passengers = s.reserves.intercom };
      store = s.store;
    }
