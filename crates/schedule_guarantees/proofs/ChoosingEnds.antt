-- Choosing ends: at each move one less is left.
use mathlib.Core.Path.{◌≡◌, refl, ap}
use mathlib.Core.Bool.{Bool, true, false}
use mathlib.Core.List.{List, [], ◌∷◌}
use Prim.Native.Nat.{ℕ, zero, suc, ◌+◌, ◌≤◌, ◌<◌}
use native.Mathlib.Omega.{arith}
use lib.Dec.{ltb}
use lib.ListN.{get_or, length, get_or-eq_default}
use borrow.Author.Tests.{ltb-true, ltb-false, ne_eqb}
use Rattle.schedule.specs.Choosing.{Choice, Look, Move, after, choose, choose_in, chosen, led, look, most_looks, moves, nobody, serves}
use Rattle.schedule.specs.TwoLists.{TwoLists, listed}
use Rattle.schedule.proofs.Totals.{at-most-all}
use Rattle.schedule_guarantees.specs.ChoosingEnds.{ChoosingEnds, MayBeServed}
use Rattle.schedule_guarantees.specs.Kept.{Sound}
use Rattle.schedule_guarantees.specs.NeverUnlists.{NeverUnlists}
use Rattle.schedule_guarantees.proofs.Kept.{Looked, choosing-keeps, facts_at, look-law, served-low}
use Rattle.schedule_guarantees.proofs.Measure.{moves-high, moves_left}
use Rattle.schedule_guarantees.proofs.Moves.{Served}

-- more looks than moves are left: the choice does not depend on them
enough : (m n : ℕ) (counts : List ℕ) (s : TwoLists) → Sound counts s → moves_left counts s < m → moves_left counts s < n →
    choose_in m counts s ≡ choose_in n counts s
unfolding choose_in
enough zero n counts s h p q = absurd (omega arith)
enough (suc m) zero counts s h p q = absurd (omega arith)
enough (suc m) (suc n) counts s h p q = go (look counts s) (look-law counts s h) (enough m n counts)
  where
    go : (l : Look) → Looked counts s l →
        ((t : TwoLists) → Sound counts t → moves_left counts t < m → moves_left counts t < n → choose_in m counts t ≡ choose_in n counts t) →
        after (choose_in m counts) s l ≡ after (choose_in n counts) s l
    go nobody k next = refl
    go (serves flow) k next = refl
    go (moves move t) k next = ap (led move) (next t k.0 (omega (arith, k.1.fewer)) (omega (arith, k.1.fewer)))

moves-at-most : (n : ℕ) (counts : List ℕ) (s : TwoLists) → Sound counts s → length (choose_in n counts s).moved ≤ moves_left counts s
unfolding choose_in
moves-at-most zero counts s h = omega arith
moves-at-most (suc n) counts s h = go (look counts s) (look-law counts s h) (moves-at-most n counts)
  where
    go : (l : Look) → Looked counts s l → ((t : TwoLists) → Sound counts t → length (choose_in n counts t).moved ≤ moves_left counts t) →
        length (after (choose_in n counts) s l).moved ≤ moves_left counts s
    go nobody k next = omega arith
    go (serves flow) k next = omega arith
    go (moves move t) k next = omega (arith, next t k.0, k.1.fewer)

-- a flow with a packet has a number, and is listed
pub holder-low : (counts : List ℕ) (s : TwoLists) (flow : ℕ) → Sound counts s → 1 ≤ get_or counts flow 0 → flow < 64
holder-low counts s flow h p = go (ltb flow 64) refl
  where
    go : (b : Bool) → ltb flow 64 ≡ b → flow < 64
    go true e = ltb-true flow 64 e
    go false e =
        let k : length counts ≤ flow = omega (arith, ltb-false flow 64 e, h.counts-long) in
        absurd (omega (arith, get_or-eq_default counts 0 k))

positive : (n : ℕ) → (n ≡ 0 → ⊥) → 1 ≤ n
positive zero h = absurd (h refl)
positive (suc n) h = omega arith

pub holder-listed : (counts : List ℕ) (s : TwoLists) (flow : ℕ) → Sound counts s → 1 ≤ get_or counts flow 0 → listed flow s ≡ 1
holder-listed counts s flow h p =
    let low = holder-low counts s flow h p in
    let f = facts_at counts s h in
    omega (arith, f.once flow low, f.held flow low (λ e. omega arith))

ends-in : (n : ℕ) (counts : List ℕ) (s : TwoLists) (flow : ℕ) → Sound counts s → moves_left counts s < n → 1 ≤ get_or counts flow 0 →
    MayBeServed counts (choose_in n counts s)
unfolding choose_in
ends-in zero counts s flow h p q = absurd (omega arith)
ends-in (suc n) counts s flow h p q = go (look counts s) (look-law counts s h) (λ t. ends-in n counts t flow)
  where
    served : (f : ℕ) → Served counts s f → MayBeServed counts (chosen f s)
    served f k =
        record {
          is-flow = served-low counts s f h k;
          is-listed = rw (ne_eqb (listed f s) 0 (λ z. omega (arith, z, k.is-listed)));
          holds = positive (get_or counts f 0) k.holds;
          not_negative = k.owes_nothing;
        }

    -- a move more changes nothing of it
    still : (m : Move) (c : Choice) → MayBeServed counts c → MayBeServed counts (led m c)
    still m c k = record { is-flow = k.is-flow; is-listed = k.is-listed; holds = k.holds; not_negative = k.not_negative }

    go : (l : Look) → Looked counts s l →
        ((t : TwoLists) → Sound counts t → moves_left counts t < n → 1 ≤ get_or counts flow 0 → MayBeServed counts (choose_in n counts t)) →
        MayBeServed counts (after (choose_in n counts) s l)
    go nobody k next = absurd (omega (arith, k flow, holder-listed counts s flow h q))
    go (serves f) k next = served f k
    go (moves move t) k next = still move _ (next t k.0 (omega (arith, k.1.fewer)) q)

pub left-high : (counts : List ℕ) (s : TwoLists) (flow : ℕ) → Sound counts s → 1 ≤ get_or counts flow 0 → moves_left counts s ≤ 2879
left-high counts s flow h p =
    moves-high counts s flow (at-most-all counts s h.well) (omega (arith, holder-listed counts s flow h p)) (λ e. omega arith)

pub choosing-ends : ChoosingEnds
unfolding choose
choosing-ends counts s flow h p =
    let left = left-high counts s flow h p in (
      ends-in most_looks counts s flow h (omega arith) p,
      λ looks. omega (arith, moves-at-most looks counts s h),
      λ more. enough (most_looks + more) most_looks counts s h (omega arith) (omega arith),
    )

-- ── a flow with packets stays listed ──

pub never-unlists : NeverUnlists
never-unlists counts s flow h p =
    let t = (choose counts s).lists in
    (holder-listed counts s flow h p, holder-listed counts t flow (choosing-keeps counts s h).0 p)

-- ── a total above 0 has a flow with packets ──

pub record Holder (counts : List ℕ) : Type 0 where
  pub flow : ℕ
  pub holds : 1 ≤ get_or counts flow 0

pub holder : (total : List ℕ → ℕ) → total [] ≡ 0 → ((n : ℕ) (l : List ℕ) → total (n ∷ l) ≡ n + total l) →
    (counts : List ℕ) → 1 ≤ total counts → Holder counts
holder total z more [] p = absurd (omega (arith, z))
holder total z more (zero ∷ l) p =
    let k = holder total z more l (omega (arith, more 0 l)) in record { flow = suc k.flow; holds = k.holds }
holder total z more (suc n ∷ l) p = record { flow = 0; holds = omega arith }
