-- Question 2 for each queue: it sheds load by PIE, so its allowances last.
use mathlib.Core.Path.{ap}
use Rattle.pie_guarantees.proofs.AllowanceLasts as proved
use Rattle.pair_rules.specs.Fresh.{fresh}
use Rattle.pair_rules.specs.declared.Which.TheVariants.{Intercom, Passengers}
use Rattle.pair_rules.proofs.FreshFormed.{made-accepted}
use Rattle.pair_guarantees.specs.AllowanceLasts.{AllowanceLasts}
use Rattle.pair_guarantees.specs.FreshGrace.{FreshGrace}
use Rattle.pair_guarantees.specs.Grace.{Grace}
use Rattle.pair_guarantees.specs.Shedding.{queue_of, tells}
use Rattle.pair_guarantees.proofs.Sheds.{own-sheds}

pub allowance-lasts : AllowanceLasts
allowance-lasts w start calls = proved.allowance-lasts (queue_of w) (own-sheds w) start calls

pub grace : Grace
grace w start calls before e later q told full =
    proved.grace (queue_of w) (own-sheds w) start calls before e later q (ap tells told) full

pub fresh-grace : FreshGrace
unfolding fresh
fresh-grace Intercom slots intercom passengers calls e =
    rw (made-accepted slots intercom passengers e) (allowance-lasts Intercom _ calls)
fresh-grace Passengers slots intercom passengers calls e =
    rw (made-accepted slots intercom passengers e) (allowance-lasts Passengers _ calls)
