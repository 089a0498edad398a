-- Chains whose links are in order: what every theorem here rests on.
use Rattle.std.specs.Prelude.{◌≡◌, Bool, cond, List, [], ◌∷◌, map, ℕ, ◌+◌, ◌≤◌, ◌<◌, eqb, ltb, get_or, length}
use Rattle.pie.specs.Verdicts.{total}
use Rattle.store_guarantees.specs.Chains.{Chain, Chains, chain_at, freed_places, places}

-- how many packets the chains hold together
abbrev pub count_of : Chain → ℕ
count_of c = c.count

abbrev pub held : Chains → ℕ
held h = total (map count_of h.chains)

-- 1 where the test passes, else 0
abbrev pub one : Bool → ℕ
one test = cond test 1 0

-- how many times a place stands in a list
abbrev pub times : ℕ → List ℕ → ℕ
times p [] = 0
times p (q ∷ qs) = one (eqb p q) + times p qs

-- the last of a list; `none` if it is empty
abbrev pub last_of : (none : ℕ) → List ℕ → ℕ
last_of none [] = none
last_of none (p ∷ ps) = last_of p ps

pub record Sound (h : Chains) : Type 0 where
  pub slots : h.slots ≤ 65536
  pub used : h.store.used ≤ h.slots
  pub handles : length h.handles ≡ h.slots
  pub sizes : length h.sizes ≡ h.slots
  -- no place is outside the tables, in an empty chain either
  pub freed : h.store.freed < h.slots
  pub heads : (i : ℕ) → (chain_at h i).ends.head < h.slots
  pub tails : (i : ℕ) → (chain_at h i).ends.tail < h.slots
  -- the last packet of a chain stands at its tail
  pub last : (i : ℕ) → last_of (chain_at h i).ends.tail (get_or (places h) i []) ≡ (chain_at h i).ends.tail
  -- each place below `used` is in exactly one chain or among the freed, and there once; places from `used` on are in none
  pub parted : (p : ℕ) → total (map (times p) (places h)) + times p (freed_places h) ≡ one (ltb p h.store.used)
  pub counted : held h + h.store.spare ≡ h.store.used
