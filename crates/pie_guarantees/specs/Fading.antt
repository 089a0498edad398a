-- What ticks on an empty queue do to the probability, whatever kind of queue it is and by either profile.
use Rattle.std.specs.Prelude.{◌≡◌, Bool, ℕ, zero, suc, ◌≤◌}
use Rattle.units.specs.Kinds.{whole}
use Rattle.pie.specs.Update.{updated}
use Rattle.pie.specs.declared.Pie.{Pie}

-- f, n times
unfoldable pub times : {A : Type 0} → ℕ → (A → A) → A → A
times zero f x = x
times (suc n) f x = f (times n f x)

-- with a target of at least `least`, this many ticks in succession that each find the queue empty bring any probability to 0
abbrev pub FadesWithin : (ticks least : ℕ) → Type 0
FadesWithin ticks least =
    (pie : Pie) (calm : Bool) (target : ℕ) → pie.prob.0 ≤ whole → least ≤ target →
    (times ticks (λ q. updated q calm target 0) pie).prob.0 ≡ 0

abbrev pub Fading : Type 0
Fading = FadesWithin 1000 1000
