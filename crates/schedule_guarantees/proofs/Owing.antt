-- No flow owes more than a largest packet: choosing lowers no deficit, and what is served has one that is not negative.
use mathlib.Core.Path.{◌≡◌, refl}
use mathlib.Core.Bool.{Bool, true, false}
use mathlib.Core.List.{List}
use Prim.Native.Nat.{ℕ, zero, suc, ◌+◌, ◌-◌, ◌≤◌, ◌<◌}
use native.Mathlib.Omega.{arith}
use lib.Dec.{eqb}
use lib.ListN.{get_or, length, set}
use lib.Seq.{get_or-set_same, get_or-set_other}
use borrow.Author.Tests.{eqb-true, eqb-false}
use Rattle.laws.proofs.Choice.{either}
use Rattle.schedule.specs.Choosing.{Look, choose, choose_in, look, most_looks, moves, nobody, serves}
use Rattle.schedule.specs.Entering.{entered, is_listed}
use Rattle.schedule.specs.TwoLists.{TwoLists, deficit_of, quantum, zero_deficit}
use Rattle.schedule.specs.Choosing as choosing
use Rattle.schedule_guarantees.specs.Kept.{Sound}
use Rattle.schedule_guarantees.specs.Owing.{OweAtMost, Owing}
use Rattle.schedule_guarantees.specs.Stretch.{after, arrives, departs}
use Rattle.schedule_guarantees.proofs.ChoosingEnds.{choosing-ends}
use Rattle.schedule_guarantees.proofs.Kept.{Looked, choosing-keeps, look-law}

chosen-no-less : (n : ℕ) (counts : List ℕ) (s : TwoLists) → Sound counts s → (j : ℕ) →
    deficit_of s j ≤ deficit_of (choose_in n counts s).lists j
unfolding choose_in
chosen-no-less zero counts s h j = omega arith
chosen-no-less (suc n) counts s h j = go (look counts s) (look-law counts s h) (λ t k. chosen-no-less n counts t k j)
  where
    go : (l : Look) → Looked counts s l → ((t : TwoLists) → Sound counts t → deficit_of t j ≤ deficit_of (choose_in n counts t).lists j) →
        deficit_of s j ≤ deficit_of (choosing.after (choose_in n counts) s l).lists j
    go nobody k again = omega arith
    go (serves flow) k again = omega arith
    go (moves move t) k again = omega (arith, k.1.no_less j, again t k.0)

no_less : (counts : List ℕ) (s : TwoLists) → Sound counts s → (j : ℕ) → deficit_of s j ≤ deficit_of (choose counts s).lists j
unfolding choose
no_less counts s h j = chosen-no-less most_looks counts s h j

-- one deficit is replaced
replaced : (ds : List ℕ) (most i new : ℕ) → i < length ds → zero_deficit ≤ new + most → (j : ℕ) → zero_deficit ≤ get_or ds j 0 + most →
    zero_deficit ≤ get_or (set ds i new) j 0 + most
replaced ds most i new h fits j was = go (eqb j i) refl
  where
    go : (b : Bool) → eqb j i ≡ b → zero_deficit ≤ get_or (set ds i new) j 0 + most
    go true e = rw (eqb-true j i e, get_or-set_same ds i new 0 h) fits
    go false e = rw (get_or-set_other ds i j new 0 (eqb-false j i e)) was

pub owing : Owing
unfolding after entered
owing l (arrives x) most h fit some owed =
    either (OweAtMost most) (is_listed s x) s (entered s x) owed
    (λ j low. replaced s.deficits most x (zero_deficit + quantum) (omega (arith, h.deficits-long, fit)) (omega arith) j (owed j low))
  where
    s : TwoLists
    s = l.lists
owing l (departs size) most h fit (flow, has) owed =
    let counts = l.counts in
    let s = l.lists in
    let c = choose counts s in
    let t = c.lists in
    let m = (choosing-ends counts s flow h has).0 in
    let k = (choosing-keeps counts s h).0 in
    λ j low.
    replaced t.deficits most c.flow (deficit_of t c.flow - size) (omega (arith, k.deficits-long, m.is-flow))
    (omega (arith, m.not_negative, fit)) j (omega (arith, owed j low, no_less counts s h j))
