-- A refused `c` leaves the all-zero state, and on it every call is refused by 2.
use mathlib.Core.Path.{◌≡◌, refl}
use Rattle.ring.specs.Answer.{Reply}
use Rattle.refusals.specs.Answer.{refused}
use Rattle.ring.specs.Arrival.{arrival, arrival_refusal}
use Rattle.ring.specs.Departure.{departure, departure_refusal}
use Rattle.ring.specs.Fresh.{zero_state}
use Rattle.ring.specs.State.{well_formed}
use Rattle.ring.specs.Tick.{tick, tick_refusal}
use Rattle.ring.specs.Calls.{Call, arrive, depart, reply, update}

abbrev pub malformed : Reply
malformed = record { answer = refused 2; state = zero_state }

pub idle-reply : (c : Call) → reply zero_state c ≡ malformed
unfolding arrival arrival_refusal departure departure_refusal tick tick_refusal well_formed
idle-reply (arrive handles sizes clock handle size ecn u) = refl
idle-reply (depart handles sizes clock) = refl
idle-reply (update clock) = refl
