-- What a call gives, by what the library's functions find.
use mathlib.Core.Path.{◌≡◌, refl}
use mathlib.Core.List.{List, map}
use Prim.Native.Nat.{ℕ}
use Rattle.refusals.specs.Numbers.{number_of}
use Rattle.refusals.specs.declared.Refusal.{Refusal}
use Rattle.refusals.specs.declared.Refusal.TheVariants.{Settings, Malformed, Tables, Clock, TooSoon, Empty, Size, Counts, Head}
use Rattle.fq_state.specs.State.{State}
use Rattle.fq_state.specs.declared.Flow.{Flow}
use Rattle.fq_rules.specs.Answer.{Reply, refused, ticked, unless_refused}
use Rattle.fq_rules.specs.Tick.{tick, tick_refusal, ticked_common, ticked_flow}

pub refused-reply : (r : Refusal) (given : State) (accepted : Reply) →
    unless_refused (number_of r) given accepted ≡ record { answer = refused (number_of r); state = given }
refused-reply Settings given accepted = refl
refused-reply Malformed given accepted = refl
refused-reply Tables given accepted = refl
refused-reply Clock given accepted = refl
refused-reply TooSoon given accepted = refl
refused-reply Empty given accepted = refl
refused-reply Size given accepted = refl
refused-reply Counts given accepted = refl
refused-reply Head given accepted = refl

-- ── a tick ──

pub tick-refused : (s : State) (clock : ℕ) (r : Refusal) → number_of r ≡ tick_refusal s clock →
    (refused (number_of r) ≡ (tick s clock).answer) × (s ≡ (tick s clock).state)
unfolding tick
tick-refused s clock r e = rw (← e, refused-reply) (refl, refl)

pub tick-taken : (s : State) (clock : ℕ) (flows : List Flow) → 0 ≡ tick_refusal s clock →
    flows ≡ map (ticked_flow s.common.settings.target.0) s.flows →
    (ticked ≡ (tick s clock).answer)
    × (record { common = ticked_common s.common clock; schedule = s.schedule; flows = flows } ≡ (tick s clock).state)
unfolding tick
tick-taken s clock flows e ef = rw (← e, ef) (refl, refl)
