-- Choosing, an arrival and a departure keep the lists well formed.
use mathlib.Core.Path.{◌≡◌, refl, ap, sym, ◌∙◌}
use mathlib.Core.Bool.{Bool, true, false, cond}
use mathlib.Core.List.{List, [], ◌∷◌, ◌++◌}
use Prim.Native.Nat.{ℕ, zero, suc, ◌+◌, ◌-◌, ◌≤◌, ◌<◌}
use native.Mathlib.Omega.{arith}
use lib.Dec.{eqb, ltb}
use lib.ListN.{get_or, length-set, set}
use lib.Seq.{get_or-set_same, get_or-set_other}
use borrow.Author.Tests.{eqb-true, eqb-false, ltb-true, ltb-false, not-true, not-false}
use Rattle.schedule.specs.Choosing.{Look, after, charged, choose, choose_in, look, most_looks, moves, nobody, serves}
use Rattle.schedule.specs.Entering.{entered, is_listed}
use Rattle.schedule.specs.TwoLists.{TwoLists, deficit_of, listed, lists, occurs, quantum, zero_deficit}
use Rattle.schedule.proofs.Occurs.{occurs-end, occurs-other, occurs-self}
use Rattle.schedule.proofs.Well.{Facts, facts-of, highest, well-of}
use Rattle.schedule_guarantees.specs.Kept.{ArrivalKeeps, ChoosingKeeps, DepartureKeeps, MovesKeep, Sound}
use Rattle.schedule_guarantees.proofs.Moves.{Finds, Moved, Served, facts-moved, found-law, proper-of}

pub facts_at : (counts : List ℕ) (s : TwoLists) → Sound counts s → Facts counts s
facts_at counts s h = facts-of counts s h.well

-- ── choosing ──

-- what a look finds
abbrev pub Looked : (counts : List ℕ) → TwoLists → Look → Type 0
Looked counts s nobody = (j : ℕ) → listed j s ≡ 0
Looked counts s (serves flow) = Served counts s flow
Looked counts s (moves m t) = Sound counts t × Moved counts s t

pub look-law : (counts : List ℕ) (s : TwoLists) → Sound counts s → Looked counts s (look counts s)
look-law counts s h = go (look counts s) (found-law counts s (proper-of counts s h.deficits-long (facts_at counts s h)))
  where
    go : (l : Look) → Finds counts s l → Looked counts s l
    go nobody k = k
    go (serves flow) k = k
    go (moves m t) k = (
      record {
        counts-long = h.counts-long;
        deficits-long = k.long ∙ h.deficits-long;
        well = well-of counts t (facts-moved counts s t h.deficits-long (facts_at counts s h) k);
      },
      k,
    )

pub moves-keep : MovesKeep
moves-keep counts s next m h e = let k : Looked counts s (moves m next) = rw e at (look-law counts s h) in k.0

-- a flow that is served is the number of one
pub served-low : (counts : List ℕ) (s : TwoLists) (flow : ℕ) → Sound counts s → Served counts s flow → flow < 64
served-low counts s flow h k = go (ltb flow 64) refl
  where
    go : (b : Bool) → ltb flow 64 ≡ b → flow < 64
    go true e = ltb-true flow 64 e
    go false e = absurd (omega (arith, (facts_at counts s h).flows-only flow (ltb-false flow 64 e), k.is-listed))

pub choosing-in : (n : ℕ) (counts : List ℕ) (s : TwoLists) → Sound counts s →
    Sound counts (choose_in n counts s).lists × ((choose_in n counts s).flow < 64)
unfolding choose_in
choosing-in zero counts s h = (h, omega arith)
choosing-in (suc n) counts s h = go (look counts s) (look-law counts s h) (choosing-in n counts)
  where
    go : (l : Look) → Looked counts s l →
        ((t : TwoLists) → Sound counts t → Sound counts (choose_in n counts t).lists × ((choose_in n counts t).flow < 64)) →
        Sound counts (after (choose_in n counts) s l).lists × ((after (choose_in n counts) s l).flow < 64)
    go nobody k next = (h, omega arith)
    go (serves flow) k next = (h, served-low counts s flow h k)
    go (moves move t) k next = next t k.0

pub choosing-keeps : ChoosingKeeps
unfolding choose
choosing-keeps counts s h = choosing-in most_looks counts s h

-- ── an arrival ──

-- a flow that enters stands at the new list's end
pub entered-lists : (s : TwoLists) (flow : ℕ) →
    entered s flow ≡ lists (s.new ++ flow ∷ []) s.old (set s.deficits flow (zero_deficit + quantum))
unfolding entered
entered-lists s flow = refl

-- what another count of a flow leaves
others-held : (counts : List ℕ) (s : TwoLists) (flow v : ℕ) → Facts counts s →
    (j : ℕ) → (j ≡ flow → ⊥) → j < 64 → (get_or (set counts flow v) j 0 ≡ 0 → ⊥) → 1 ≤ listed j s
others-held counts s flow v f j n p k = f.held j p (λ z. k (get_or-set_other counts flow j v 0 n ∙ z))

module _ (counts : List ℕ) (s : TwoLists) (flow : ℕ) (h : Sound counts s) (low : flow < 64) where
  abbrev more : List ℕ
  more = set counts flow (get_or counts flow 0 + 1)

  f : Facts counts s
  f = facts_at counts s h

  -- it is listed: it keeps its place and deficit
  arrived-listed : 1 ≤ listed flow s → Sound more s
  arrived-listed in_List =
      record {
        counts-long = length-set counts flow (get_or counts flow 0 + 1) ∙ h.counts-long;
        deficits-long = h.deficits-long;
        well = well-of more s
            (record { flows-only = f.flows-only; once = f.once; held = λ j p k. held j p k (eqb j flow) refl; range = f.range });
      }
    where
      held : (j : ℕ) → j < 64 → (get_or more j 0 ≡ 0 → ⊥) → (b : Bool) → eqb j flow ≡ b → 1 ≤ listed j s
      held j p k true e = rw (eqb-true j flow e) in_List
      held j p k false e = others-held counts s flow (get_or counts flow 0 + 1) f j (eqb-false j flow e) p k

  entered-facts : listed flow s ≡ 0 →
      Facts more (lists (s.new ++ flow ∷ []) s.old (set s.deficits flow (zero_deficit + quantum)))
  entered-facts out =
      record {
        flows-only = λ j k. omega (arith, occurs-end flow j s.new, occurs-other flow j (λ e. omega arith), f.flows-only j k);
        once = λ j p. once j p (eqb j flow) refl;
        held = λ j p k. held j p k (eqb j flow) refl;
        range = λ j p. range j p (eqb j flow) refl;
      }
    where
      once : (j : ℕ) → j < 64 → (b : Bool) → eqb j flow ≡ b → occurs j (s.new ++ flow ∷ []) + occurs j s.old ≤ 1
      once j p true e = rw (eqb-true j flow e) (omega (arith, occurs-end flow flow s.new, occurs-self flow, out))
      once j p false e = omega (arith, occurs-end flow j s.new, occurs-other flow j (λ q. eqb-false j flow e (sym q)), f.once j p)

      held : (j : ℕ) → j < 64 → (get_or more j 0 ≡ 0 → ⊥) → (b : Bool) → eqb j flow ≡ b → 1 ≤ occurs j (s.new ++ flow ∷ []) + occurs j
          s.old
      held j p k true e = rw (eqb-true j flow e) (omega (arith, occurs-end flow flow s.new, occurs-self flow))
      held j p k false e =
          omega (arith, occurs-end flow j s.new, others-held counts s flow (get_or counts flow 0 + 1) f j (eqb-false j flow e) p k)

      range : (j : ℕ) → j < 64 → (b : Bool) → eqb j flow ≡ b → get_or (set s.deficits flow (zero_deficit + quantum)) j 0 ≤ highest
      range j p true e =
          rw (eqb-true j flow e, get_or-set_same s.deficits flow (zero_deficit + quantum) 0 (omega (arith, h.deficits-long))) (omega arith)
      range j p false e =
          rw (get_or-set_other s.deficits flow j (zero_deficit + quantum) 0 (eqb-false j flow e)) (f.range j p)

  arrived-unlisted : listed flow s ≡ 0 → Sound more (entered s flow)
  unfolding entered
  arrived-unlisted out =
      record {
        counts-long = length-set counts flow (get_or counts flow 0 + 1) ∙ h.counts-long;
        deficits-long = length-set s.deficits flow _ ∙ h.deficits-long;
        well = well-of more (entered s flow) (entered-facts out);
      }

  arrival-by : (b : Bool) → is_listed s flow ≡ b → Sound more (cond b s (entered s flow))
  arrival-by true e =
      let n = eqb-false (listed flow s) 0 (not-true (eqb (listed flow s) 0) e) in arrived-listed (omega (arith, n))
  arrival-by false e = arrived-unlisted (eqb-true (listed flow s) 0 (not-false (eqb (listed flow s) 0) e))

pub arrival-keeps : ArrivalKeeps
arrival-keeps counts s flow h low = arrival-by counts s flow h low (is_listed s flow) refl

-- ── a departure ──

pub departure-keeps : DepartureKeeps
departure-keeps counts s flow size h low =
    record {
      counts-long = length-set counts flow (get_or counts flow 0 - 1) ∙ h.counts-long;
      deficits-long = length-set s.deficits flow _ ∙ h.deficits-long;
      well = well-of less (charged s flow size)
          (record {
            flows-only = f.flows-only;
            once = f.once;
            held = λ j p k. held j p k (eqb j flow) refl;
            range = λ j p. range j p (eqb j flow) refl;
          });
    }
  where
    less : List ℕ
    less = set counts flow (get_or counts flow 0 - 1)

    f : Facts counts s
    f = facts_at counts s h

    held : (j : ℕ) → j < 64 → (get_or (set counts flow (get_or counts flow 0 - 1)) j 0 ≡ 0 → ⊥) → (b : Bool) → eqb j flow ≡ b → 1 ≤ listed j s
    held j p k true e =
        f.held j p
        (λ z. k (rw (eqb-true j flow e) (get_or-set_same counts flow (get_or counts flow 0 - 1) 0 (omega (arith, h.counts-long))
        ∙ omega (arith, ap (λ i. get_or counts i 0) (sym (eqb-true j flow e)) ∙ z))))
    held j p k false e = others-held counts s flow (get_or counts flow 0 - 1) f j (eqb-false j flow e) p k

    range : (j : ℕ) → j < 64 → (b : Bool) → eqb j flow ≡ b → get_or (set s.deficits flow (deficit_of s flow - size)) j 0 ≤ highest
    range j p true e =
        rw (eqb-true j flow e, get_or-set_same s.deficits flow (deficit_of s flow - size) 0 (omega (arith, h.deficits-long)))
        (omega (arith, f.range flow low))
    range j p false e = rw (get_or-set_other s.deficits flow j (deficit_of s flow - size) 0 (eqb-false j flow e)) (f.range j p)
