-- Which row of a table a probability is in.
use mathlib.Core.Path.{◌≡◌}
use mathlib.Core.List.{List, [], ◌∷◌}
use Prim.Native.Nat.{ℕ, zero, suc, ◌≤◌, ◌<◌}
use borrow.Author.Tests.{le-leb, lt-leb}
use lib.ListN.{get_or}
use Rattle.pie.specs.Update.{lookup}

-- p is past the rows before row i, and not past row i
abbrev pub In : List (ℕ × ℕ) → (i p : ℕ) → Type 0
In [] i p = ⊥
In ((end, k) ∷ rows) zero p = p ≤ end
In ((end, k) ∷ rows) (suc i) p = (end < p) × In rows i p

pub in_row : (rows : List (ℕ × ℕ)) (i p : ℕ) → In rows i p → (get_or rows i (0, 0)).1 ≡ lookup rows p
unfolding lookup
in_row [] i p h = absurd h
in_row ((end, k) ∷ rows) zero p h = rw (le-leb p end h)
in_row ((end, k) ∷ rows) (suc i) p h = rw (lt-leb p end h.0) (in_row rows i p h.1)
