-- The free place of sound chains: no chain has it, and no link that is followed to find the next one is bad.
use mathlib.Core.Path.{◌≡◌, refl}
use mathlib.Core.Bool.{Bool, true, false}
use mathlib.Core.List.{List, map}
use Prim.Native.Nat.{ℕ, zero, suc, ◌+◌, ◌-◌, ◌≤◌, ◌<◌}
use native.Mathlib.Omega.{arith}
use borrow.Author.Tests.{eqb-true, eqb-false, le-leb, le-ltb, lt-leb, lt-ltb, ltb-true, ltb-false}
use lib.Dec.{eqb, leb, ltb}
use Rattle.pie.specs.Verdicts.{total}
use Rattle.store.specs.Following.{followed, link_refused}
use Rattle.store.specs.Put.{free_place, store_after_put}
use Rattle.store.specs.Words.{link_at}
use Rattle.store.specs.declared.Store.{Store}
use Rattle.store_guarantees.specs.Chains.{Chains, freed_places, places, walk}
use Rattle.store_guarantees.specs.Sound.{Sound, held, one, times}
use Rattle.store_guarantees.proofs.Walks.{once}

-- ── tests as numbers ──

pub one-high : (b : Bool) → one b ≤ 1
one-high true = omega arith
one-high false = omega arith

pub below : (p n : ℕ) → 1 ≤ one (ltb p n) → p < n
below p n h = go (ltb p n) refl
  where
    go : (b : Bool) → ltb p n ≡ b → p < n
    go true e = ltb-true p n e
    go false e = omega (arith, rw e at h)

-- one place more is used
pub one_more : (p n : ℕ) → one (ltb p (n + 1)) ≡ one (ltb p n) + one (eqb p n)
one_more p n = go (ltb p n) refl (eqb p n) refl
  where
    go : (b : Bool) → ltb p n ≡ b → (d : Bool) → eqb p n ≡ d → one (ltb p (n + 1)) ≡ one (ltb p n) + one (eqb p n)
    go true e true f = absurd (omega (arith, ltb-true p n e, eqb-true p n f))
    go true e false f = rw (e, f, lt-ltb p (n + 1) (omega (arith, ltb-true p n e)))
    go false e true f = rw (e, f, lt-ltb p (n + 1) (omega (arith, eqb-true p n f)))
    go false e false f = rw (e, f, le-ltb p (n + 1) (omega (arith, ltb-false p n e, eqb-false p n f)))

-- ── the place that is followed ──

-- where it is walked it is the link
pub walk-followed : (sizes : List ℕ) (first n : ℕ) → walk sizes (followed sizes first (suc n)) n ≡ walk sizes (link_at sizes first) n
walk-followed sizes first zero = refl
walk-followed sizes first (suc n) = rw (le-leb 2 (suc (suc n)) (omega arith))

-- it is inside the tables if all walked places are
pub followed-inside : (sizes : List ℕ) (first n slots : ℕ) → first < slots →
    ((p : ℕ) → 1 ≤ times p (walk sizes first (suc n)) → p < slots) → followed sizes first (suc n) < slots
followed-inside sizes first zero slots inside all = inside
followed-inside sizes first (suc n) slots inside all =
    rw (le-leb 2 (suc (suc n)) (omega arith)) (all (link_at sizes first) (omega (arith, once (link_at sizes first))))

-- and its link is then no link to no slot
pub link-kept : (slots : ℕ) (sizes : List ℕ) (first count : ℕ) → followed sizes first count < slots → link_refused slots sizes first count ≡ false
link-kept slots sizes first count h = go (leb 2 count) refl
  where
    go : (b : Bool) → leb 2 count ≡ b → link_refused slots sizes first count ≡ false
    go true e = rw e (lt-leb slots (link_at sizes first) (rw e at h))
    go false e = rw e

-- ── the free place ──

pub record Claim (h : Chains) : Type 0 where
  pub place : ℕ
  pub store : Store
  pub found : free_place h.store ≡ place
  pub left : store_after_put h.store h.sizes ≡ store
  pub followed : link_refused h.slots h.sizes h.store.freed h.store.spare ≡ false
  pub inside : place < h.slots
  pub used : store.used ≤ h.slots
  pub freed : store.freed < h.slots
  pub counted : h.store.spare + store.used ≡ store.spare + 1 + h.store.used
  -- the place leaves the freed slots, or is used now
  pub parted : (p : ℕ) →
      one (eqb p place) + times p (walk h.sizes store.freed store.spare) + one (ltb p h.store.used)
      ≡ times p (freed_places h) + one (ltb p store.used)

module _ (h : Chains) (s : Sound h) where
  -- a place in a list is used
  pub listed-inside : (p : ℕ) → 1 ≤ total (map (times p) (places h)) + times p (freed_places h) → p < h.slots
  listed-inside p k = let u = below p h.store.used (omega (arith, s.parted p)) in omega (arith, s.used)

  -- from the places that were never used
  claim-unused : h.store.spare ≡ 0 → h.store.used < h.slots → Claim h
  unfolding store_after_put
  claim-unused none room =
      let test = lt-leb 1 h.store.spare (omega arith) in
      record {
        place = h.store.used;
        store = record { used = h.store.used + 1; freed = h.store.freed; spare = h.store.spare };
        found = rw test;
        left = rw test;
        followed = rw (lt-leb 2 h.store.spare (omega arith));
        inside = room;
        used = omega arith;
        freed = s.freed;
        counted = omega arith;
        parted = λ p. omega (arith, one_more p h.store.used);
      }

  -- from the freed ones
  claim-freed : (n : ℕ) → h.store.spare ≡ suc n → Claim h
  unfolding store_after_put
  claim-freed n some =
      let first = h.store.freed in
      let next = followed h.sizes first (suc n) in
      let fewer : suc n - 1 ≡ n = omega arith in
      let good : next < h.slots = followed-inside h.sizes first n h.slots s.freed (λ p k. listed-inside p (rw some (omega arith))) in
      record {
        place = first;
        store = record { used = h.store.used; freed = next; spare = n };
        found = rw (some, le-leb 1 (suc n) (omega arith));
        left = rw (some, le-leb 1 (suc n) (omega arith), fewer);
        followed = rw some (link-kept h.slots h.sizes first (suc n) good);
        inside = s.freed;
        used = s.used;
        freed = good;
        counted = omega arith;
        parted = λ p. rw (some, walk-followed h.sizes first n) (omega arith);
      }

  pub claimable : held h < h.slots → Claim h
  claimable room = go h.store.spare refl
    where
      go : (n : ℕ) → h.store.spare ≡ n → Claim h
      go zero e = claim-unused e (omega (arith, s.counted))
      go (suc n) e = claim-freed n e
