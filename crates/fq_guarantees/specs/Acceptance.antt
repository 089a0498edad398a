-- A call is refused by a number, and returns the record that it was given, or it is accepted: the rules' own definitions, with both apart.
use Rattle.std.specs.Prelude.{◌≡◌, refl, ℕ, length}
use Rattle.fq_state.specs.State.{State}
use Rattle.fq_rules.specs.Answer.{Reply, unless_refused}
use Rattle.fq_rules.specs.Arrival.{accepted_arrival, arrival, arrival_refusal}
use Rattle.fq_rules.specs.Departure.{accepted_departure, departure, departure_refusal}
use Rattle.fq_rules.specs.Tick.{accepted_tick, tick, tick_refusal}
use Rattle.fq_guarantees.specs.Calls.{Call, arrive, depart, reply, update}

-- the reply where no test of the call holds
abbrev pub acceptance : State → Call → Reply
acceptance s (arrive handles sizes clock key handle size ecn u) = accepted_arrival s sizes clock key size ecn u
acceptance s (depart handles sizes clock) = accepted_departure s handles sizes clock
acceptance s (update clock) = accepted_tick s clock

-- the number of the refusal; 0 where there is none
abbrev pub refusal : State → Call → ℕ
refusal s (arrive handles sizes clock key handle size ecn u) = arrival_refusal s (length handles) sizes clock key size ecn u
refusal s (depart handles sizes clock) = departure_refusal s (length handles) sizes clock
refusal s (update clock) = tick_refusal s clock

pub reply-unless-refused : (s : State) (c : Call) → reply s c ≡ unless_refused (refusal s c) s (acceptance s c)
unfolding arrival departure tick
reply-unless-refused s (arrive handles sizes clock key handle size ecn u) = refl
reply-unless-refused s (depart handles sizes clock) = refl
reply-unless-refused s (update clock) = refl
