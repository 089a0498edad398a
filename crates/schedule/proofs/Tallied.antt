-- The test of the flows: how often each is listed.
use mathlib.Core.Path.{◌≡◌, refl, ap, sym, ◌∙◌}
use mathlib.Core.Bool.{Bool, true, false, ◌&&◌}
use mathlib.Core.List.{List}
use Prim.Native.Nat.{ℕ, zero, suc, ◌+◌, ◌<◌}
use native.Mathlib.Numerals.{add-one}
use native.Mathlib.Omega.{arith}
use lib.Dec.{eqb}
use lib.ListN.{get_or, length, set}
use lib.Seq.{get_or-set_same, get_or-set_other}
use borrow.Author.Tests.{eqb-true, eqb-false}
use Rattle.laws.proofs.Tests.{and_left, and_right}
use Rattle.schedule.specs.Ring.{Schedule, place, ring_of, two_lists}
use Rattle.schedule.specs.TwoLists.{occurs}
use Rattle.schedule.specs.WellFormed.{are_flows, every, flow_fits, lists_fit, lists_well, well_listed}
use Rattle.schedule.proofs.Facts.{facts}
use Rattle.schedule.proofs.Flows.{flows-both}
use Rattle.schedule.proofs.Occurs.{occurs-both, occurs-first, occurs-more, occurs-other, occurs-self}

-- ── a test at every number ──

pub every_more : (n : ℕ) (t : ℕ → Bool) → every (n + 1) t ≡ every n t && t n
unfolding every
every_more n t = rw add-one

pub every-none : (t : ℕ → Bool) → every 0 t ≡ true
unfolding every
every-none t = refl

pub every-same : (n : ℕ) (t u : ℕ → Bool) → ((j : ℕ) → j < n → t j ≡ u j) → every n t ≡ every n u
unfolding every
every-same zero t u h = refl
every-same (suc n) t u h = ap (λ b. b && t n) (every-same n t u (λ j p. h j (omega arith))) ∙ ap (λ b. every n u && b) (h n (omega arith))

-- ── how often each is listed ──

abbrev pub Tallied : (times l : List ℕ) → Type 0
Tallied times l = (flow : ℕ) → flow < 64 → get_or times flow 0 ≡ occurs flow l

pub tally-none : (order : List ℕ) (first : ℕ) (times : List ℕ) → ((j : ℕ) → j < 64 → get_or times j 0 ≡ 0) → Tallied times
    (ring_of order first 0)
tally-none order first times h = λ flow p. h flow p ∙ sym (occurs-first order first flow)

pub tally-more : (order times : List ℕ) (first n : ℕ) → length times ≡ 64 → get_or order (place first n) 0 < 64 →
    Tallied times (ring_of order first n) →
    Tallied (set times (get_or order (place first n) 0) (get_or times (get_or order (place first n) 0) 0 + 1)) (ring_of order first (n + 1))
tally-more order times first n long low t = λ j h. go j h (eqb (get_or order (place first n) 0) j) refl
  where
    go : (j : ℕ) → j < 64 → (b : Bool) → eqb (get_or order (place first n) 0) j ≡ b →
        get_or (set times (get_or order (place first n) 0) (get_or times (get_or order (place first n) 0) 0 + 1)) j 0 ≡ occurs j
        (ring_of order first (n + 1))
    go j h true e =
        let x = get_or order (place first n) 0 in
        let same : x ≡ j = eqb-true x j e in
        rw (← same) (get_or-set_same times x (get_or times x 0 + 1) 0 (omega arith) ∙ omega
        (arith, t x low, occurs-more order first n x, occurs-self x))
    go j h false e =
        let x = get_or order (place first n) 0 in
        get_or-set_other times x j (get_or times x 0 + 1) 0 (λ q. eqb-false x j e (sym q))
        ∙ omega (arith, t j h, occurs-more order first n j, occurs-other x j (eqb-false x j e))

-- the tally's test is the ring's
pub tally-tests : (counts deficits times l : List ℕ) → Tallied times l →
    every 64 (λ j. flow_fits (get_or times j 0) (get_or counts j 0) (get_or deficits j 0))
    ≡ every 64 (λ j. flow_fits (occurs j l) (get_or counts j 0) (get_or deficits j 0))
tally-tests counts deficits times l t =
    every-same 64 (λ j. flow_fits (get_or times j 0) (get_or counts j 0) (get_or deficits j 0))
    (λ j. flow_fits (occurs j l) (get_or counts j 0) (get_or deficits j 0))
    (λ j p. ap (λ n. flow_fits n (get_or counts j 0) (get_or deficits j 0)) (t j p))

-- ── the whole test ──

module _ (counts : List ℕ) (s : Schedule) where
  abbrev pub entries : List ℕ
  entries = ring_of s.order s.lists.first s.lists.listed

  abbrev pub flows_fit : Bool
  flows_fit = every 64 (λ flow. flow_fits (occurs flow entries) (get_or counts flow 0) (get_or s.deficits flow 0))

  pub no-lists : lists_fit s.lists ≡ false → well_listed counts s ≡ false
  unfolding well_listed
  no-lists h = ap (λ b. b && lists_well counts (two_lists s)) h

  -- of the ring, whose entries are those of both lists
  as-entries : lists_fit s.lists ≡ true → well_listed counts s ≡ are_flows entries && flows_fit
  unfolding well_listed lists_well
  as-entries h =
      let low = (facts s.lists h).old-le in
      ap (λ b. b && lists_well counts (two_lists s)) h
      ∙ ap (λ b. b && every 64 (λ flow. flow_fits (occurs-all flow) (get_or counts flow 0) (get_or s.deficits flow 0)))
      (sym (flows-both s low))
      ∙ ap (λ b. are_flows entries && b)
      (every-same 64 (λ flow. flow_fits (occurs-all flow) (get_or counts flow 0) (get_or s.deficits flow 0))
      (λ flow. flow_fits (occurs flow entries) (get_or counts flow 0) (get_or s.deficits flow 0))
      (λ flow p. ap (λ n. flow_fits n (get_or counts flow 0) (get_or s.deficits flow 0)) (sym (occurs-both flow s low))))
    where
      occurs-all : ℕ → ℕ
      occurs-all flow = occurs flow (two_lists s).new + occurs flow (two_lists s).old

  pub no-flows : lists_fit s.lists ≡ true → are_flows entries ≡ false → well_listed counts s ≡ false
  no-flows h e = as-entries h ∙ ap (λ b. b && flows_fit) e

  pub each-flow : lists_fit s.lists ≡ true → are_flows entries ≡ true → well_listed counts s ≡ flows_fit
  each-flow h e = as-entries h ∙ ap (λ b. b && flows_fit) e

  -- what lists that pass tell
  pub lists_of : well_listed counts s ≡ true → lists_fit s.lists ≡ true
  unfolding well_listed
  lists_of h = and_left (lists_fit s.lists) (lists_well counts (two_lists s)) h

  pub flows-of : well_listed counts s ≡ true → are_flows entries ≡ true
  flows-of h = and_left (are_flows entries) flows_fit (sym (as-entries (lists_of h)) ∙ h)

  pub well-of-ring : well_listed counts s ≡ true → lists_well counts (two_lists s) ≡ true
  unfolding well_listed
  well-of-ring h = and_right (lists_fit s.lists) (lists_well counts (two_lists s)) h

  pub ring-of-well : lists_fit s.lists ≡ true → lists_well counts (two_lists s) ≡ true → well_listed counts s ≡ true
  unfolding well_listed
  ring-of-well h k = rw (h, k) refl
