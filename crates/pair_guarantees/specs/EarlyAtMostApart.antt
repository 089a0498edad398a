-- Q-3 for each of two queues: over any list of its own calls from well-formed records, refused ones and other kinds of call anywhere
-- between, whatever the other queue does: the probabilities added while no early verdict comes come to less than 8.5 (`added`, crate
-- pie_guarantees).
use Rattle.std.specs.Prelude.{◌≡◌, true, false, ◌<◌}
use mathlib.Core.List.{List, ◌++◌, Memᴰ}
use Rattle.pie.specs.Constants.{most_accumulated}
use Rattle.calls.specs.Traces.{Entry, trace}
use Rattle.pie_guarantees.specs.Spacing.{added, tells_early}
use Rattle.pair_rules.specs.Queues.{own}
use Rattle.pair_rules.specs.WellFormed.{well_formed}
use Rattle.pair_rules.specs.declared.Pair.{Pair}
use Rattle.pair_rules.specs.declared.Which.{Which}
use Rattle.pair_guarantees.specs.Calls.{OwnCall, own_calls}
use Rattle.pair_guarantees.specs.Shedding.{queue_of, tells}

abbrev pub EarlyAtMostApart : Type 0
EarlyAtMostApart =
    (w : Which) (p : Pair) (calls : List OwnCall) (before between later : List (Entry (own_calls w))) → well_formed p ≡ true →
    trace (own_calls w) (own w p) calls ≡ before ++ (between ++ later) →
    ((a : Entry (own_calls w)) → Memᴰ a between → tells_early (tells a.answer) ≡ false) →
    added (queue_of w) between < most_accumulated
