-- A kind of queue with no profile begins an arrival's rules in the state that it is given.
use mathlib.Core.Path.{refl}
use mathlib.Core.Logic.{inl}
use Rattle.pie_guarantees.specs.Shedding.{Begun, Shedding}

pub begins-as-given : (k : Shedding) (s : k.kind.State) → Begun k s s
begins-as-given k s =
    record {
      turned = inl (refl, refl);
      target = refl;
      count = refl;
      bytes = refl;
      last = refl;
      bytes_full = λ c. refl;
      slots_full = λ c. refl;
    }
