-- 5, 6: a place is replaced by its link exactly where another one stands behind it. No other link is read.
use Rattle.std.specs.Prelude.{Bool, cond, ◌&&◌, List, ℕ, leb}
use Rattle.store.specs.Words.{link_at}

-- the first of `count` linked places is followed
abbrev pub followed : (sizes : List ℕ) (place count : ℕ) → ℕ
followed sizes place count = cond (leb 2 count) (link_at sizes place) place

-- a followed link that is not below the slots is a link to no slot (refusal 9)
abbrev pub link_refused : (slots : ℕ) (sizes : List ℕ) (place count : ℕ) → Bool
link_refused slots sizes place count = leb 2 count && leb slots (link_at sizes place)
