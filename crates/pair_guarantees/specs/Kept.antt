-- The three records stay well formed (15), whichever queue is called, whatever it is asked and whatever tables it is lent: any lists, of
-- any lengths and any contents. Records that are not well formed stay so too: such a call is refused by 2.
use Rattle.std.specs.Prelude.{◌≡◌}
use Rattle.ring.specs.Calls.{Call}
use Rattle.pair_rules.specs.WellFormed.{well_formed}
use Rattle.pair_rules.specs.declared.Pair.{Pair}
use Rattle.pair_rules.specs.declared.Which.{Which}
use Rattle.pair_guarantees.specs.Calls.{reply}

abbrev pub Kept : Type 0
Kept = (p : Pair) (w : Which) (c : Call) → well_formed (reply p w c).pair ≡ well_formed p
