-- From fresh no measurement is given up: either queue sheds load by PIE, and a fresh state has none that runs.
use mathlib.Core.Path.{refl}
use Rattle.pie_guarantees.proofs.NeverGivenUp as proved
use Rattle.pair_rules.specs.Fresh.{fresh}
use Rattle.pair_rules.specs.declared.Which.TheVariants.{Intercom, Passengers}
use Rattle.pair_rules.proofs.FreshFormed.{made-accepted}
use Rattle.pair_guarantees.specs.NeverGivenUp.{NeverGivenUp}
use Rattle.pair_guarantees.specs.Shedding.{queue_of}
use Rattle.pair_guarantees.proofs.Sheds.{own-sheds}

pub never-given-up : NeverGivenUp
unfolding fresh
never-given-up Intercom slots intercom passengers calls e =
    rw (made-accepted slots intercom passengers e) (proved.never-given-up (queue_of Intercom) (own-sheds Intercom) _ calls refl)
never-given-up Passengers slots intercom passengers calls e =
    rw (made-accepted slots intercom passengers e) (proved.never-given-up (queue_of Passengers) (own-sheds Passengers) _ calls refl)
