-- The tests of refusals 7 and 9, which every kind of queue has.
use Rattle.std.specs.Prelude.{Bool, ◌||◌, ℕ, ◌-◌, ◌*◌, ltb, eqb}
use Rattle.pie.specs.Constants.{largest}
use Rattle.pie.specs.declared.Backlog.{Backlog}

-- 7: size is 0 or above 65,535
abbrev pub size_refused : (size : ℕ) → Bool
size_refused size = eqb size 0 || ltb largest size

-- 9: the head's stored size is 0 or above 65,535, or removing it would take bytes below 0 or break count ≤ bytes ≤ 65,535 × count
unfoldable pub head_refused : Backlog → (size : ℕ) → Bool
head_refused b size =
    size_refused size
    || ltb b.bytes.0 size
    || ltb (b.bytes.0 - size) (b.count - 1)
    || ltb (largest * (b.count - 1)) (b.bytes.0 - size)
