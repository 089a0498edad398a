-- Bytes served follow the quanta gained, and these differ by at most one.
use mathlib.Core.Path.{◌≡◌, refl, ap, sym, subst, ◌∙◌}
use mathlib.Core.Bool.{Bool, true, false, cond, true≢false}
use mathlib.Core.List.{List, [], ◌∷◌, ◌++◌, append_assoc}
use Prim.Native.Nat.{ℕ, zero, suc, ◌+◌, ◌-◌, ◌*◌, ◌≤◌, ◌<◌, max}
use native.Mathlib.Omega.{arith}
use lib.Dec.{eqb}
use lib.ListN.{get_or, length, set}
use lib.Seq.{get_or-set_same, get_or-set_other}
use borrow.Author.Tests.{eqb-true, eqb-false, not-false}
use Rattle.schedule.specs.Choosing.{Choice, Look, choose, choose_in, look, most_looks, moves, nobody, serves}
use Rattle.schedule.specs.Entering.{entered, is_listed}
use Rattle.schedule.specs.TwoLists.{TwoLists, deficit_of, listed, quantum, zero_deficit}
use Rattle.schedule.proofs.Occurs.{occurs-end, occurs-other}
use Rattle.schedule.specs.Choosing as choosing
use Rattle.schedule_guarantees.specs.ChoosingEnds.{MayBeServed}
use Rattle.schedule_guarantees.specs.Fairness.{Fairness}
use Rattle.schedule_guarantees.specs.Stretch.{AllFit, AtEach, Event, Fits, HasPackets, Line, after, arrives, bytes, departs, served}
use Rattle.schedule_guarantees.specs.Kept.{Sound}
use Rattle.schedule_guarantees.proofs.Before.{before, before-skip}
use Rattle.schedule_guarantees.proofs.ChoosingEnds.{choosing-ends, holder-listed, holder-low, left-high}
use Rattle.schedule_guarantees.proofs.Kept.{
  Looked,
  arrival-keeps,
  choosing-keeps,
  departure-keeps,
  entered-lists,
  facts_at,
  look-law,
}
use Rattle.schedule_guarantees.proofs.Levels.{Lag, Turned, Turns, ahead, as_before, order_of, turns-law}
use Rattle.schedule_guarantees.proofs.Measure.{moves_left}
use Rattle.schedule_guarantees.proofs.Moves.{proper-of}
use Rattle.schedule_guarantees.proofs.Stretch.{final}

abbrev order : TwoLists → List ℕ
order s = order_of s

module _ (f g most top : ℕ) (enough : zero_deficit + quantum ≤ top + 1) (ne : f ≡ g → ⊥) (first : Bool) where
  -- ── choosing ──

  abbrev Change : TwoLists → TwoLists → Type 0
  Change s t = Turned f g most top first (order s) s.deficits (order t) t.deficits

  and_then : (s t u : TwoLists) → Change s t → Change t u → Change s u
  and_then s t u a b = record { level = omega (arith, a.level, b.level); lag = b.lag }

  record Chose (s : TwoLists) (c : Choice) : Type 0 where
    change : Change s c.lists
    head : c.flow ≡ f → before f g (order c.lists) ≡ true

  module _ (counts : List ℕ) (held-f : 1 ≤ get_or counts f 0) (held-g : 1 ≤ get_or counts g 0) where
    abbrev Sees : TwoLists → Look → Type 0
    Sees s l = Turns f g most top enough ne first s l

    sees : (s : TwoLists) → Sound counts s → Lag f g most top first (order s) s.deficits → Sees s (look counts s)
    sees s h k =
        turns-law f g most top enough ne first counts (λ e. omega arith) (λ e. omega arith) s
        (proper-of counts s h.deficits-long (facts_at counts s h)) k
        (holder-listed counts s f h held-f) (holder-listed counts s g h held-g)

    chose-in : (n : ℕ) (s : TwoLists) → Sound counts s → Lag f g most top first (order s) s.deficits → moves_left counts s < n →
        Chose s (choose_in n counts s)
    unfolding choose_in
    chose-in zero s h k p = absurd (omega arith)
    chose-in (suc n) s h k p = go (look counts s) (look-law counts s h) (sees s h k) (chose-in n)
      where
        go : (l : Look) → Looked counts s l → Sees s l →
            ((t : TwoLists) → Sound counts t → Lag f g most top first (order t) t.deficits → moves_left counts t < n → Chose t
            (choose_in n counts t)) →
            Chose s (choosing.after (choose_in n counts) s l)
        go nobody a b again = absurd (omega (arith, a f, holder-listed counts s f h held-f))
        go (serves x) a b again =
            record {
              change = as_before f g most top enough ne first (order s) s.deficits (order s) s.deficits refl refl refl k;
              head = b;
            }
        go (moves move t) a b again =
            let r = again t a.0 b.lag (omega (arith, a.1.fewer)) in
            record { change = and_then s t (choose_in n counts t).lists b r.change; head = r.head }

    chose : (s : TwoLists) → Sound counts s → Lag f g most top first (order s) s.deficits → Chose s (choose counts s)
    unfolding choose
    chose s h k = chose-in most_looks s h k (omega (arith, left-high counts s f h held-f))

  -- ── a departure ──

  record Paid (size x : ℕ) (o ds ds' : List ℕ) : Type 0 where
    level : cond (eqb x f) size 0 + (get_or ds' f 0 + ahead f g o) + get_or ds g 0
        ≡ cond (eqb x g) size 0 + (get_or ds f 0 + ahead f g o) + get_or ds' g 0
    lag : Lag f g most top first o ds'

  pays : (size x : ℕ) (o ds : List ℕ) → size ≤ most → most ≤ 65535 → x < length ds → zero_deficit ≤ get_or ds x 0 →
      (x ≡ f → before f g o ≡ true) →
      Lag f g most top first o ds → Paid size x o ds (set ds x (get_or ds x 0 - size))
  pays size x o ds fit cap h d head k = go (eqb x f) refl (eqb x g) refl
    where
      same : get_or (set ds x (get_or ds x 0 - size)) x 0 ≡ get_or ds x 0 - size
      same = get_or-set_same ds x (get_or ds x 0 - size) 0 h

      others : (j : ℕ) → (j ≡ x → ⊥) → get_or (set ds x (get_or ds x 0 - size)) j 0 ≡ get_or ds j 0
      others j n = get_or-set_other ds x j (get_or ds x 0 - size) 0 n

      go : (a : Bool) → eqb x f ≡ a → (b : Bool) → eqb x g ≡ b → Paid size x o ds (set ds x (get_or ds x 0 - size))
      go true a true b = absurd (ne (sym (eqb-true x f a) ∙ eqb-true x g b))
      go true a false b =
          let e : x ≡ f = eqb-true x f a in
          let mine : get_or (set ds x (get_or ds x 0 - size)) f 0 ≡ get_or ds f 0 - size =
          subst (λ y. get_or (set ds x (get_or ds x 0 - size)) y 0 ≡ get_or ds y 0 - size) e same in
          let high : zero_deficit ≤ get_or ds f 0 = subst (λ y. zero_deficit ≤ get_or ds y 0) e d in
          let other = others g (λ q. eqb-false x g b (sym q)) in
          record {
            level = rw (a, b, mine, other) (omega (arith, high));
            lag = record {
              low-f = omega (arith, mine, high);
              low-g = omega (arith, other, k.low-g);
              high-g = omega (arith, other, k.high-g);
              behind = λ z p. absurd (true≢false (sym (head e) ∙ z));
            };
          }
      go false a true b =
          let e : x ≡ g = eqb-true x g b in
          let mine : get_or (set ds x (get_or ds x 0 - size)) g 0 ≡ get_or ds g 0 - size =
          subst (λ y. get_or (set ds x (get_or ds x 0 - size)) y 0 ≡ get_or ds y 0 - size) e same in
          let high : zero_deficit ≤ get_or ds g 0 = subst (λ y. zero_deficit ≤ get_or ds y 0) e d in
          let other = others f (λ q. eqb-false x f a (sym q)) in
          record {
            level = rw (a, b, mine, other) (omega (arith, high));
            lag = record {
              low-f = omega (arith, other, k.low-f);
              low-g = omega (arith, mine, high);
              high-g = omega (arith, mine, k.high-g);
              behind = λ z p. omega (arith, other, k.behind z p);
            };
          }
      go false a false b =
          let of-f = others f (λ q. eqb-false x f a (sym q)) in
          let of-g = others g (λ q. eqb-false x g b (sym q)) in
          record {
            level = rw (a, b, of-f, of-g) (omega arith);
            lag = record {
              low-f = omega (arith, of-f, k.low-f);
              low-g = omega (arith, of-g, k.low-g);
              high-g = omega (arith, of-g, k.high-g);
              behind = λ z p. omega (arith, of-f, k.behind z p);
            };
          }

  -- ── an event ──

  record Inv (l : Line) : Type 0 where
    sound : Sound l.counts l.lists
    has-f : listed f l.lists ≡ 1
    has-g : listed g l.lists ≡ 1
    lag : Lag f g most top first (order l.lists) l.lists.deficits

  -- a and b: the bytes served to f and to g
  abbrev Balance : (a b : ℕ) (l m : Line) → Type 0
  Balance a b l m =
      a + (deficit_of m.lists f + ahead f g (order m.lists)) + deficit_of l.lists g
      ≡ b + (deficit_of l.lists f + ahead f g (order l.lists)) + deficit_of m.lists g

  abbrev Stepped : (l : Line) → Event → Type 0
  Stepped l e = Inv (after l e) × Balance (bytes f l e) (bytes g l e) l (after l e)

  departure : (l : Line) (size : ℕ) → Inv l → 1 ≤ get_or l.counts f 0 → 1 ≤ get_or l.counts g 0 → size ≤ most → most ≤ 65535 →
      Stepped l (departs size)
  unfolding after
  departure l size v pf pg fit cap =
      let counts = l.counts in
      let s = l.lists in
      let c = choose counts s in
      let t = c.lists in
      let r = chose counts pf pg s v.sound v.lag in
      let m : MayBeServed counts c = (choosing-ends counts s f v.sound pf).0 in
      let h : Sound counts t = (choosing-keeps counts s v.sound).0 in
      let p = pays size c.flow (order t) t.deficits fit cap (omega (arith, h.deficits-long, m.is-flow)) m.not_negative
      r.head r.change.lag in (
        record {
          sound = departure-keeps counts t c.flow size h m.is-flow;
          has-f = holder-listed counts t f h pf;
          has-g = holder-listed counts t g h pg;
          lag = p.lag;
        },
        omega (arith, r.change.level, p.level),
      )

  -- a flow in neither list enters between the two lists
  enters : (counts : List ℕ) (s : TwoLists) (x : ℕ) → Sound counts s → x < 64 → listed x s ≡ 0 →
      listed f s ≡ 1 → listed g s ≡ 1 → Lag f g most top first (order s) s.deficits →
      Change s (entered s x) × (listed f (entered s x) ≡ 1) × (listed g (entered s x) ≡ 1)
  enters counts s x h low out has-f has-g k =
      let not_f : x ≡ f → ⊥ = λ e. clash f (ap (λ y. listed y s) (sym e) ∙ out) has-f in
      let not-g : x ≡ g → ⊥ = λ e. clash g (ap (λ y. listed y s) (sym e) ∙ out) has-g in
      let ds = set s.deficits x (zero_deficit + quantum) in
      let same : before f g ((s.new ++ x ∷ []) ++ s.old) ≡ before f g (s.new ++ s.old) =
      ap (before f g) (append_assoc s.new (x ∷ []) s.old) ∙ before-skip f g x s.new s.old not_f not-g in
      subst (λ l. Turned f g most top first (order s) s.deficits (order_of l) l.deficits × (listed f l ≡ 1) × (listed g l ≡ 1))
      (sym (entered-lists s x)) (
        as_before f g most top enough ne first (order s) s.deficits ((s.new ++ x ∷ []) ++ s.old) ds same
            (get_or-set_other s.deficits x f (zero_deficit + quantum) 0 (λ e. not_f (sym e)))
            (get_or-set_other s.deficits x g (zero_deficit + quantum) 0 (λ e. not-g (sym e))) k,
        omega (arith, occurs-end x f s.new, occurs-other x f not_f, has-f),
        omega (arith, occurs-end x g s.new, occurs-other x g not-g, has-g),
      )
    where
      clash : (y : ℕ) → listed y s ≡ 0 → listed y s ≡ 1 → ⊥
      clash y a b = omega (arith, a, b)

  arrival : (l : Line) (x : ℕ) → Inv l → x < 64 → Stepped l (arrives x)
  unfolding after
  arrival l x v low = go (is_listed l.lists x) refl (arrival-keeps l.counts l.lists x v.sound low)
    where
      more : List ℕ
      more = set l.counts x (get_or l.counts x 0 + 1)

      go : (b : Bool) → is_listed l.lists x ≡ b →
          Sound (set l.counts x (get_or l.counts x 0 + 1)) (cond b l.lists (entered l.lists x)) →
          let m : Line = record
          { counts = set l.counts x (get_or l.counts x 0 + 1); lists = cond b l.lists (entered l.lists x) } in
          Inv m × Balance 0 0 l m
      go true e h = (record { sound = h; has-f = v.has-f; has-g = v.has-g; lag = v.lag }, refl)
      go false e h =
          let out : listed x l.lists ≡ 0 =
          eqb-true (listed x l.lists) 0 (not-false (eqb (listed x l.lists) 0) e) in
          let r = enters l.counts l.lists x v.sound low out v.has-f v.has-g v.lag in
          (record { sound = h; has-f = r.1; has-g = r.2; lag = r.0.lag }, omega (arith, r.0.level))

  step : (l : Line) (e : Event) → Inv l → HasPackets f l e → HasPackets g l e → Fits most e → most ≤ 65535 → Stepped l e
  step l (arrives x) v pf pg fit cap = arrival l x v fit
  step l (departs size) v pf pg fit cap = departure l size v pf pg fit cap

  -- ── a stretch ──

  run : (l : Line) (events : List Event) → Inv l → AtEach f l events → AtEach g l events → AllFit most events → most ≤ 65535 →
      Inv (final l events) × Balance (served f l events) (served g l events) l (final l events)
  unfolding final served
  run l [] v pf pg fit cap = (v, omega arith)
  run l (e ∷ events) v (pf, nf) (pg, ng) (fit, fits) cap =
      let a = step l e v pf pg fit cap in
      let b = run (after l e) events a.0 nf ng fits cap in
      (b.0, omega (arith, a.1, b.1))

  -- f stood before g at the start, or did not
  bounded : (l : Line) (events : List Event) → Inv l → before f g (order l.lists) ≡ first → f < 64 →
      top ≡ max 67048 (deficit_of l.lists g) → AtEach f l events → AtEach g l events → AllFit most events → most ≤ 65535 →
      served f l events < served g l events + 2 * (most + quantum)
  bounded l events v start low limit pf pg fit cap =
      let r = run l events v pf pg fit cap in
      let high = (facts_at l.counts l.lists v.sound).range f low in
      go first start refl (before f g (order (final l events).lists)) refl high r.0.lag r.1
    where
      go : (a : Bool) → before f g (order l.lists) ≡ a → first ≡ a →
          (b : Bool) → before f g (order (final l events).lists) ≡ b → deficit_of l.lists f ≤ zero_deficit + quantum →
          Lag f g most top first (order (final l events).lists) (final l events).lists.deficits →
          Balance (served f l events) (served g l events) l (final l events) →
          served f l events < served g l events + 2 * (most + quantum)
      go true p s true q h k e = let u = rw (p, q) at e in omega (arith, u, h, limit, k.low-f, k.high-g, v.lag.low-g)
      go true p s false q h k e = let u = rw (p, q) at e in omega (arith, u, h, limit, k.behind q s, k.high-g, v.lag.low-g)
      go false p s true q h k e = let u = rw (p, q) at e in omega (arith, u, h, limit, k.low-f, k.high-g, v.lag.low-g)
      go false p s false q h k e = let u = rw (p, q) at e in omega (arith, u, h, limit, k.low-f, k.high-g, v.lag.low-g)

pub fairness : Fairness
fairness l events f g most h ne cap fit wf wg =
    let top = max 67048 (deficit_of l.lists g) in
    bounded f g most top (omega arith) ne (before f g (order l.lists)) l events
    (record {
      sound = h;
      has-f = holder-listed l.counts l.lists f h wf.at-start;
      has-g = holder-listed l.counts l.lists g h wg.at-start;
      lag = record { low-f = wf.deficit; low-g = wg.deficit; high-g = omega arith; behind = λ z p. absurd (true≢false (sym p ∙ z)) };
    })
    refl (holder-low l.counts l.lists f h wf.at-start) refl wf.at_each wg.at_each fit cap
