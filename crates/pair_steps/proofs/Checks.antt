-- What a check tells of its test, where it refuses and where it passes.
use mathlib.Core.Path.{◌≡◌, refl}
use mathlib.Core.Bool.{Bool, true, false, cond}
use Rattle.std.specs.Prelude.{Result, Ok, Err, ⊤}
use Rattle.refusals.specs.declared.Refusal.{Refusal}

-- what a check answers that refuses by this number where its test holds
abbrev pub checked : Bool → Refusal → Result ⊤ Refusal
checked b r = cond b (Err r) (Ok tt)

pub refuses : (b : Bool) (r q : Refusal) → Err q ≡ checked b r → (b ≡ true) × (q ≡ r)
refuses true r q e = (refl, cc)
refuses false r q e = cc

pub passes : (b : Bool) (r : Refusal) (x : ⊤) → Ok x ≡ checked b r → b ≡ false
passes true r x e = cc
passes false r x e = refl
