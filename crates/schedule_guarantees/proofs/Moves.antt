-- One look at two lists: what a move keeps, and what is served.
use mathlib.Core.Path.{◌≡◌, refl, ap, sym, ◌∙◌}
use mathlib.Core.Bool.{Bool, true, false, cond}
use mathlib.Core.List.{List, [], ◌∷◌, ◌++◌}
use Prim.Native.Nat.{ℕ, ◌+◌, ◌≤◌, ◌<◌}
use native.Mathlib.Omega.{arith}
use lib.Dec.{eqb, ltb}
use lib.ListN.{get_or, length, length-set, set}
use lib.Seq.{get_or-set_same, get_or-set_other}
use borrow.Author.Tests.{eqb-true, eqb-false, ltb-true, ltb-false}
use Rattle.schedule.specs.Choosing.{
  Look,
  at_new,
  at_old,
  has_none,
  look,
  look_new,
  look_old,
  moves,
  new_goes_old,
  nobody,
  old_goes_last,
  old_leaves,
  owes,
  raised,
  serves,
}
use Rattle.schedule.specs.TwoLists.{TwoLists, listed, lists, occurs, quantum, zero_deficit}
use Rattle.schedule.proofs.Occurs.{occurs-end, occurs-head, occurs-none, occurs-other, occurs-self}
use Rattle.schedule.proofs.Well.{Facts, highest, range_at}
use Rattle.schedule_guarantees.proofs.Measure.{
  moves_left,
  new-emptied,
  new-raised,
  new-same,
  new_weight,
  old-emptied,
  old-raised,
  old-same,
  old_weight,
  weights-end,
  weights-head,
  weights-none,
  weights-same,
}

pub record Moved (counts : List ℕ) (l m : TwoLists) : Type 0 where
  pub fewer : moves_left counts m + 1 ≡ moves_left counts l
  pub long : length m.deficits ≡ length l.deficits
  -- no flow is listed more often
  pub no_more : (j : ℕ) → listed j m ≤ listed j l
  -- a flow with packets is listed as before
  pub kept : (j : ℕ) → (get_or counts j 0 ≡ 0 → ⊥) → listed j m ≡ listed j l
  -- deficits stay in range
  pub in-range : ((j : ℕ) → get_or l.deficits j 0 ≤ highest) → (j : ℕ) → get_or m.deficits j 0 ≤ highest
  -- and none falls
  pub no_less : (j : ℕ) → get_or l.deficits j 0 ≤ get_or m.deficits j 0

pub record Served (counts : List ℕ) (l : TwoLists) (flow : ℕ) : Type 0 where
  pub is-listed : 1 ≤ listed flow l
  pub owes_nothing : zero_deficit ≤ get_or l.deficits flow 0
  pub holds : get_or counts flow 0 ≡ 0 → ⊥

abbrev pub Finds : (counts : List ℕ) → TwoLists → Look → Type 0
Finds counts l nobody = (j : ℕ) → listed j l ≡ 0
Finds counts l (serves flow) = Served counts l flow
Finds counts l (moves k m) = Moved counts l m

raised-range : (ds : List ℕ) (i : ℕ) → i < length ds → get_or ds i 0 < zero_deficit → ((j : ℕ) → get_or ds j 0 ≤ highest) →
    (j : ℕ) → get_or (raised ds i) j 0 ≤ highest
raised-range ds i h low r j = go (eqb j i) refl
  where
    go : (b : Bool) → eqb j i ≡ b → get_or (set ds i (get_or ds i 0 + quantum)) j 0 ≤ highest
    go true e = rw (eqb-true j i e, get_or-set_same ds i (get_or ds i 0 + quantum) 0 h) (omega arith)
    go false e = rw (get_or-set_other ds i j (get_or ds i 0 + quantum) 0 (eqb-false j i e)) (r j)

raised-no-less : (ds : List ℕ) (i : ℕ) → i < length ds → (j : ℕ) → get_or ds j 0 ≤ get_or (raised ds i) j 0
raised-no-less ds i h j = go (eqb j i) refl
  where
    go : (b : Bool) → eqb j i ≡ b → get_or ds j 0 ≤ get_or (set ds i (get_or ds i 0 + quantum)) j 0
    go true e = rw (eqb-true j i e, get_or-set_same ds i (get_or ds i 0 + quantum) 0 h) (omega arith)
    go false e = rw (get_or-set_other ds i j (get_or ds i 0 + quantum) 0 (eqb-false j i e)) (omega arith)

-- each flow once, and each has a deficit
pub record Proper (l : TwoLists) : Type 0 where
  pub once : (j : ℕ) → listed j l ≤ 1
  pub numbered : (j : ℕ) → length l.deficits ≤ j → listed j l ≡ 0

module _ (counts : List ℕ) (flow : ℕ) (rest old ds : List ℕ) (p : Proper (lists (flow ∷ rest) old ds)) where
  abbrev was : TwoLists
  was = lists (flow ∷ rest) old ds

  absent : (occurs flow rest ≡ 0) × (occurs flow old ≡ 0)
  absent = (
    omega (arith, p.once flow, occurs-head flow flow rest, occurs-self flow),
    omega (arith, p.once flow, occurs-head flow flow rest, occurs-self flow),
  )

  moved : (ds' : List ℕ) → length ds' ≡ length ds → old_weight counts ds' flow + 1 ≡ new_weight counts ds flow →
      ((j : ℕ) → (j ≡ flow → ⊥) → new_weight counts ds' j ≡ new_weight counts ds j) →
      ((j : ℕ) → (j ≡ flow → ⊥) → old_weight counts ds' j ≡ old_weight counts ds j) →
      (((j : ℕ) → get_or ds j 0 ≤ highest) → (j : ℕ) → get_or ds' j 0 ≤ highest) → ((j : ℕ) → get_or ds j 0 ≤ get_or ds' j 0) →
      Moved counts was (lists rest (old ++ flow ∷ []) ds')
  unfolding moves_left
  moved ds' e w new_others old-others range rises =
      record {
        fewer = omega (
          arith,
          w,
          weights-end (old_weight counts ds') old flow,
          weights-head (new_weight counts ds) flow rest,
          weights-same (new_weight counts ds') (new_weight counts ds) flow rest new_others absent.0,
          weights-same (old_weight counts ds') (old_weight counts ds) flow old old-others absent.1,
        );
        long = e;
        no_more = λ j. omega (arith, occurs-end flow j old, occurs-head flow j rest);
        kept = λ j h. omega (arith, occurs-end flow j old, occurs-head flow j rest);
        in-range = range;
        no_less = rises;
      }

  at_new_lem : flow < length ds → Finds counts was (at_new counts flow rest old ds)
  at_new_lem h = go (owes ds flow) refl
    where
      go2 : (e : Bool) → has_none counts flow ≡ e → zero_deficit ≤ get_or ds flow 0 →
          Finds counts was (cond e (moves new_goes_old (lists rest (old ++ flow ∷ []) ds)) (serves flow))
      go2 true q d =
          moved ds refl (new-emptied counts ds flow d (eqb-true (get_or counts flow 0) 0 q)) (λ j n. refl) (λ j n. refl) (λ r. r)
          (λ j. omega arith)
      go2 false q d =
          record {
            is-listed = omega (arith, occurs-head flow flow rest, occurs-self flow);
            owes_nothing = d;
            holds = eqb-false (get_or counts flow 0) 0 q;
          }

      go : (b : Bool) → owes ds flow ≡ b →
          Finds counts was
          (cond b (moves new_goes_old (lists rest (old ++ flow ∷ []) (raised ds flow)))
          (cond (has_none counts flow) (moves new_goes_old (lists rest (old ++ flow ∷ []) ds)) (serves flow)))
      go true q =
          let low = ltb-true (get_or ds flow 0) zero_deficit q in
          moved (raised ds flow) (length-set ds flow (get_or ds flow 0 + quantum)) (new-raised counts ds flow h low)
          (new-same counts ds flow (get_or ds flow 0 + quantum)) (old-same counts ds flow (get_or ds flow 0 + quantum))
          (raised-range ds flow h low)
          (raised-no-less ds flow h)
      go false q = go2 (has_none counts flow) refl (ltb-false (get_or ds flow 0) zero_deficit q)

module _ (counts : List ℕ) (flow : ℕ) (rest ds : List ℕ) (p : Proper (lists [] (flow ∷ rest) ds)) where
  abbrev was-old : TwoLists
  was-old = lists [] (flow ∷ rest) ds

  gone : occurs flow rest ≡ 0
  gone = omega (arith, p.once flow, occurs-head flow flow rest, occurs-self flow)

  -- in debt: to the end of the list
  rotated : flow < length ds → get_or ds flow 0 < zero_deficit → Moved counts was-old (lists [] (rest ++ flow ∷ []) (raised ds flow))
  unfolding moves_left
  rotated h low =
      record {
        fewer = omega (
          arith,
          old-raised counts ds flow h low,
          weights-end (old_weight counts (raised ds flow)) rest flow,
          weights-head (old_weight counts ds) flow rest,
          weights-none (new_weight counts ds),
          weights-none (new_weight counts (raised ds flow)),
          weights-same (old_weight counts (raised ds flow)) (old_weight counts ds) flow rest
              (old-same counts ds flow (get_or ds flow 0 + quantum)) gone,
        );
        long = length-set ds flow (get_or ds flow 0 + quantum);
        no_more = λ j. omega (arith, occurs-end flow j rest, occurs-head flow j rest);
        kept = λ j k. omega (arith, occurs-end flow j rest, occurs-head flow j rest);
        in-range = raised-range ds flow h low;
        no_less = raised-no-less ds flow h;
      }

  -- emptied: it leaves
  left : zero_deficit ≤ get_or ds flow 0 → get_or counts flow 0 ≡ 0 → Moved counts was-old (lists [] rest ds)
  unfolding moves_left
  left d no-packet =
      record {
        fewer = omega (arith, old-emptied counts ds flow d no-packet, weights-head (old_weight counts ds) flow rest);
        long = refl;
        no_more = λ j. omega (arith, occurs-head flow j rest);
        in-range = λ r. r;
        no_less = λ j. omega arith;
        kept = λ j k. omega (arith, occurs-head flow j rest, occurs-other flow j (λ e. k (ap (λ i. get_or counts i 0) (sym e) ∙ no-packet)));
      }

  at_old_lem : flow < length ds → Finds counts was-old (at_old counts flow rest ds)
  at_old_lem h = go (owes ds flow) refl
    where
      go2 : (e : Bool) → has_none counts flow ≡ e → zero_deficit ≤ get_or ds flow 0 →
          Finds counts was-old (cond e (moves old_leaves (lists [] rest ds)) (serves flow))
      go2 true q d = left d (eqb-true (get_or counts flow 0) 0 q)
      go2 false q d =
          record {
            is-listed = omega (arith, occurs-head flow flow rest, occurs-self flow);
            owes_nothing = d;
            holds = eqb-false (get_or counts flow 0) 0 q;
          }

      go : (b : Bool) → owes ds flow ≡ b →
          Finds counts was-old
          (cond b (moves old_goes_last (lists [] (rest ++ flow ∷ []) (raised ds flow)))
          (cond (has_none counts flow) (moves old_leaves (lists [] rest ds)) (serves flow)))
      go true q = rotated h (ltb-true (get_or ds flow 0) zero_deficit q)
      go false q = go2 (has_none counts flow) refl (ltb-false (get_or ds flow 0) zero_deficit q)

-- a listed flow has a deficit
pub below : (n flow : ℕ) (many : ℕ) → 1 ≤ many → (n ≤ flow → many ≡ 0) → flow < n
below n flow many h k = go (ltb flow n) refl
  where
    go : (b : Bool) → ltb flow n ≡ b → flow < n
    go true e = ltb-true flow n e
    go false e = absurd (omega (arith, k (ltb-false flow n e)))

found-old : (counts ds old : List ℕ) → Proper (lists [] old ds) → Finds counts (lists [] old ds) (look_old counts ds old)
found-old counts ds [] p = λ j. omega (arith, occurs-none j)
found-old counts ds (flow ∷ rest) p =
    at_old_lem counts flow rest ds p
    (below (length ds) flow (listed flow (lists [] (flow ∷ rest) ds)) (omega (arith, occurs-head flow flow rest, occurs-self flow))
    (p.numbered flow))

found-new : (counts ds old new : List ℕ) → Proper (lists new old ds) → Finds counts (lists new old ds) (look_new counts ds old new)
found-new counts ds old [] p = found-old counts ds old p
found-new counts ds old (flow ∷ rest) p =
    at_new_lem counts flow rest old ds p
    (below (length ds) flow (listed flow (lists (flow ∷ rest) old ds)) (omega (arith, occurs-head flow flow rest, occurs-self flow))
    (p.numbered flow))

pub found-law : (counts : List ℕ) (l : TwoLists) → Proper l → Finds counts l (look counts l)
unfolding look
found-law counts l p = found-new counts l.deficits l.old l.new p

-- ── well-formed lists ──

pub proper-of : (counts : List ℕ) (l : TwoLists) → length l.deficits ≡ 64 → Facts counts l → Proper l
proper-of counts l long f =
    record { once = λ j. once j (ltb j 64) refl; numbered = λ j k. f.flows-only j (omega arith) }
  where
    once : (j : ℕ) (b : Bool) → ltb j 64 ≡ b → listed j l ≤ 1
    once j true e = f.once j (ltb-true j 64 e)
    once j false e = omega (arith, f.flows-only j (ltb-false j 64 e))

pub facts-moved : (counts : List ℕ) (l m : TwoLists) → length l.deficits ≡ 64 → Facts counts l → Moved counts l m → Facts counts m
facts-moved counts l m long f h =
    record {
      flows-only = λ j k. omega (arith, h.no_more j, f.flows-only j k);
      once = λ j p. omega (arith, h.no_more j, f.once j p);
      held = λ j p k. omega (arith, h.kept j k, f.held j p k);
      range = λ j p. h.in-range (range_at l.deficits long f.range) j;
    }
