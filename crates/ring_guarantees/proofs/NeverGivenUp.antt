-- From fresh no measurement is given up: in a fresh state none runs, and the ring sheds load by PIE.
use mathlib.Core.Path.{refl, ap}
use Rattle.pie_guarantees.specs.NeverGivenUp as general
use Rattle.pie_guarantees.proofs.NeverGivenUp as proved
use Rattle.ring.specs.Fresh.{fresh}
use Rattle.ring.proofs.Kept.{made-accepted}
use Rattle.ring_guarantees.specs.Calls.{Entry}
use Rattle.ring_guarantees.specs.NeverGivenUp.{GivesNothingUp, NeverGivenUp}
use Rattle.ring_guarantees.proofs.RingSheds.{ring-sheds, ring_shedding, tells}

gives-nothing-up : (a : Entry) → general.GivesNothingUp ring_shedding a → GivesNothingUp a
gives-nothing-up a g = record { enough = g.enough; others = λ handle size e. g.others size (ap tells e) }

pub never-given-up : NeverGivenUp
unfolding fresh
never-given-up settings clock calls e =
    rw (made-accepted settings clock e) (λ a m. gives-nothing-up a (proved.never-given-up ring_shedding ring-sheds _ calls refl a m))
