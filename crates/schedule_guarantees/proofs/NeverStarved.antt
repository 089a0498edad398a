-- The bytes served to any other flow follow twice those of a flow that has packets.
use mathlib.Core.Path.{◌≡◌, refl, ap, sym, subst, ◌∙◌}
use mathlib.Core.Bool.{Bool, true, false, cond}
use mathlib.Core.List.{List, [], ◌∷◌, ◌++◌, append_assoc}
use Prim.Native.Nat.{ℕ, zero, suc, ◌+◌, ◌-◌, ◌*◌, ◌≤◌, ◌<◌}
use native.Mathlib.Omega.{arith}
use lib.Dec.{eqb}
use lib.ListN.{get_or, length, set}
use lib.Seq.{get_or-set_same, get_or-set_other}
use borrow.Author.Tests.{eq-eqb, eqb-true, eqb-false, ne_eqb, not-false}
use Rattle.schedule.specs.Choosing.{Look, charged, choose, choose_in, look, most_looks, moves, nobody, serves}
use Rattle.schedule.specs.Entering.{entered, is_listed}
use Rattle.schedule.specs.TwoLists.{TwoLists, deficit_of, listed, lists, occurs, quantum, zero_deficit}
use Rattle.schedule.proofs.Occurs.{occurs-append, occurs-end, occurs-other, occurs-self}
use Rattle.schedule.proofs.Well.{range_at}
use Rattle.schedule.specs.Choosing as choosing
use Rattle.schedule_guarantees.specs.ChoosingEnds.{MayBeServed}
use Rattle.schedule_guarantees.specs.Stretch.{AllFit, AtEach, Event, Fits, HasPackets, Line, after, arrives, bytes, departs, served}
use Rattle.schedule_guarantees.specs.Kept.{Sound}
use Rattle.schedule_guarantees.specs.NeverStarved.{NeverStarved}
use Rattle.schedule_guarantees.proofs.Before.{before, before-skip}
use Rattle.schedule_guarantees.proofs.ChoosingEnds.{choosing-ends, holder-listed, holder-low}
use Rattle.schedule_guarantees.proofs.Kept.{
  Looked,
  arrival-keeps,
  choosing-keeps,
  departure-keeps,
  entered-lists,
  facts_at,
  look-law,
}
use Rattle.schedule_guarantees.proofs.Levels.{order_of}
use Rattle.schedule_guarantees.proofs.Moves.{proper-of}
use Rattle.schedule_guarantees.proofs.Shares.{Shared, Shares, level, level-high, level-low, level_by, no_change, shares-law}
use Rattle.schedule_guarantees.proofs.Stretch.{final}

module _ (f g most : ℕ) (ne : f ≡ g → ⊥) where
  abbrev height : TwoLists → ℕ
  height s = level f g s

  abbrev Change : TwoLists → TwoLists → Type 0
  Change s t = Shared f g most (height s) (height t) s.deficits t.deficits

  and_then : (s t u : TwoLists) → Change s t → Change t u → Change s u
  and_then s t u a b = record { at_most = omega (arith, a.at_most, b.at_most); low-f = b.low-f; low-g = b.low-g }

  stays : (s : TwoLists) → zero_deficit ≤ deficit_of s f + most → zero_deficit ≤ deficit_of s g + most → Change s s
  stays s lf lg = no_change f g most ne (height s) (height s) s.deficits s.deficits refl refl refl lf lg

  -- ── choosing ──

  module _ (counts : List ℕ) (held : 1 ≤ get_or counts f 0) where
    abbrev Sees : TwoLists → Look → Type 0
    Sees s l = Shares f g most ne s l

    sees : (s : TwoLists) → Sound counts s → zero_deficit ≤ deficit_of s f + most → zero_deficit ≤ deficit_of s g + most → Sees s
        (look counts s)
    sees s h lf lg =
        shares-law f g most ne counts (λ e. omega arith) s
        (record {
          proper = proper-of counts s h.deficits-long (facts_at counts s h);
          has-f = holder-listed counts s f h held;
          low-f = lf;
          low-g = lg;
        })

    chose-in : (n : ℕ) (s : TwoLists) → Sound counts s → zero_deficit ≤ deficit_of s f + most → zero_deficit ≤ deficit_of s g + most →
        Change s (choose_in n counts s).lists
    unfolding choose_in
    chose-in zero s h lf lg = stays s lf lg
    chose-in (suc n) s h lf lg = go (look counts s) (look-law counts s h) (sees s h lf lg) (chose-in n)
      where
        go : (l : Look) → Looked counts s l → Sees s l →
            ((t : TwoLists) → Sound counts t → zero_deficit ≤ deficit_of t f + most → zero_deficit ≤ deficit_of t g + most →
            Change t (choose_in n counts t).lists) →
            Change s (choosing.after (choose_in n counts) s l).lists
        go nobody a b again = stays s lf lg
        go (serves x) a b again = stays s lf lg
        go (moves move t) a b again = and_then s t (choose_in n counts t).lists b (again t a.0 b.low-f b.low-g)

    chose : (s : TwoLists) → Sound counts s → zero_deficit ≤ deficit_of s f + most → zero_deficit ≤ deficit_of s g + most →
        Change s (choose counts s).lists
    unfolding choose
    chose s h lf lg = chose-in most_looks s h lf lg

  -- ── a departure ──

  record Paid (size x : ℕ) (s t : TwoLists) : Type 0 where
    at_most : cond (eqb x g) size 0 + height t + 2 * deficit_of s f ≤ 2 * cond (eqb x f) size 0 + height s + 2 * deficit_of t f
    low-f : zero_deficit ≤ deficit_of t f + most
    low-g : zero_deficit ≤ deficit_of t g + most

  level-paid : (out behind old : Bool) (d size : ℕ) → out ≡ false → size ≤ d → size + level_by out behind old (d - size) ≤ level_by out
      behind old d
  level-paid out behind old d size e h = rw e (omega arith)

  pays : (size x : ℕ) (s : TwoLists) → size ≤ most → most ≤ 65535 → x < length s.deficits → zero_deficit ≤ deficit_of s x →
      (listed x s ≡ 0 → ⊥) → zero_deficit ≤ deficit_of s f + most → zero_deficit ≤ deficit_of s g + most →
      Paid size x s (charged s x size)
  pays size x s fit cap h d here lf lg = go (eqb x f) refl (eqb x g) refl
    where
      same : get_or (set s.deficits x (deficit_of s x - size)) x 0 ≡ deficit_of s x - size
      same = get_or-set_same s.deficits x (deficit_of s x - size) 0 h

      others : (j : ℕ) → (j ≡ x → ⊥) → get_or (set s.deficits x (deficit_of s x - size)) j 0 ≡ deficit_of s j
      others j n = get_or-set_other s.deficits x j (deficit_of s x - size) 0 n

      go : (a : Bool) → eqb x f ≡ a → (b : Bool) → eqb x g ≡ b → Paid size x s (charged s x size)
      go true a true b = absurd (ne (sym (eqb-true x f a) ∙ eqb-true x g b))
      go true a false b =
          let e : x ≡ f = eqb-true x f a in
          let mine : get_or (set s.deficits x (deficit_of s x - size)) f 0 ≡ deficit_of s f - size =
          subst (λ y. get_or (set s.deficits x (deficit_of s x - size)) y 0 ≡ deficit_of s y - size) e same in
          let high : zero_deficit ≤ deficit_of s f = subst (λ y. zero_deficit ≤ deficit_of s y) e d in
          let other = others g (λ q. eqb-false x g b (sym q)) in
          record {
            at_most = rw (a, b, mine, other) (omega (arith, high));
            low-f = omega (arith, mine, high);
            low-g = omega (arith, other, lg);
          }
      go false a true b =
          let e : x ≡ g = eqb-true x g b in
          let mine : get_or (set s.deficits x (deficit_of s x - size)) g 0 ≡ deficit_of s g - size =
          subst (λ y. get_or (set s.deficits x (deficit_of s x - size)) y 0 ≡ deficit_of s y - size) e same in
          let high : zero_deficit ≤ deficit_of s g = subst (λ y. zero_deficit ≤ deficit_of s y) e d in
          let other = others f (λ q. eqb-false x f a (sym q)) in
          let in_list : listed g s ≡ 0 → ⊥ = subst (λ y. listed y s ≡ 0 → ⊥) e here in
          let out : eqb (occurs g (order_of s)) 0 ≡ false =
          ne_eqb (occurs g (order_of s)) 0 (λ z. in_list (sym (occurs-append g s.new s.old) ∙ z)) in
          let u = level-paid (eqb (occurs g (order_of s)) 0) (before f g (order_of s)) (eqb (occurs g s.new) 0)
          (deficit_of s g) size out (omega (arith, high)) in
          record {
            at_most = rw (a, b, mine, other) (omega (arith, u));
            low-f = omega (arith, other, lf);
            low-g = omega (arith, mine, high);
          }
      go false a false b =
          let of-f = others f (λ q. eqb-false x f a (sym q)) in
          let of-g = others g (λ q. eqb-false x g b (sym q)) in
          record {
            at_most = rw (a, b, of-f, of-g) (omega arith);
            low-f = omega (arith, of-f, lf);
            low-g = omega (arith, of-g, lg);
          }

  -- ── an event ──

  record Inv (l : Line) : Type 0 where
    sound : Sound l.counts l.lists
    has-f : listed f l.lists ≡ 1
    low-f : zero_deficit ≤ deficit_of l.lists f + most
    low-g : zero_deficit ≤ deficit_of l.lists g + most

  -- a and b: the bytes served to f and to g
  abbrev Balance : (a b : ℕ) (l m : Line) → Type 0
  Balance a b l m =
      b + height m.lists + 2 * deficit_of l.lists f ≤ 2 * a + height l.lists + 2 * deficit_of m.lists f

  abbrev Stepped : (l : Line) → Event → Type 0
  Stepped l e = Inv (after l e) × Balance (bytes f l e) (bytes g l e) l (after l e)

  departure : (l : Line) (size : ℕ) → Inv l → 1 ≤ get_or l.counts f 0 → size ≤ most → most ≤ 65535 → Stepped l (departs size)
  unfolding after
  departure l size v p fit cap =
      let counts = l.counts in
      let s = l.lists in
      let c = choose counts s in
      let t = c.lists in
      let r = chose counts p s v.sound v.low-f v.low-g in
      let m : MayBeServed counts c = (choosing-ends counts s f v.sound p).0 in
      let h : Sound counts t = (choosing-keeps counts s v.sound).0 in
      let here : listed c.flow t ≡ 0 → ⊥ = λ z. omega (arith, holder-listed counts t c.flow h m.holds, z) in
      let q = pays size c.flow t fit cap (omega (arith, h.deficits-long, m.is-flow)) m.not_negative here r.low-f r.low-g in (
        record {
          sound = departure-keeps counts t c.flow size h m.is-flow;
          has-f = holder-listed counts t f h p;
          low-f = q.low-f;
          low-g = q.low-g;
        },
        omega (arith, r.at_most, q.at_most),
      )

  -- g enters at a level of at most two quanta, another flow changes nothing
  level-entered : (behind : Bool) → level_by false behind false (zero_deficit + quantum) ≤ zero_deficit + 2 * quantum
  level-entered true = omega arith
  level-entered false = omega arith

  module _ (s : TwoLists) (x : ℕ) (lf : zero_deficit ≤ deficit_of s f + most) (lg : zero_deficit ≤ deficit_of s g + most) where
    abbrev ds : List ℕ
    ds = set s.deficits x (zero_deficit + quantum)

    -- the lists with x at the end of the new one
    abbrev with-x : TwoLists
    with-x = lists (s.new ++ x ∷ []) s.old ds

    abbrev Entered : Type 0
    Entered = Shared f g most (height s) (level f g with-x) s.deficits ds

    other-enters : (x ≡ f → ⊥) → (x ≡ g → ⊥) → Entered
    other-enters p q =
        let new : occurs g (s.new ++ x ∷ []) ≡ occurs g s.new = omega (arith, occurs-end x g s.new, occurs-other x g q) in
        let all : occurs g ((s.new ++ x ∷ []) ++ s.old) ≡ occurs g (s.new ++ s.old) =
        omega (arith, new, occurs-append g (s.new ++ x ∷ []) s.old, occurs-append g s.new s.old) in
        let first : before f g ((s.new ++ x ∷ []) ++ s.old) ≡ before f g (s.new ++ s.old) =
        ap (before f g) (append_assoc s.new (x ∷ []) s.old) ∙ before-skip f g x s.new s.old p q in
        let of-g : get_or ds g 0 ≡ deficit_of s g = get_or-set_other s.deficits x g (zero_deficit + quantum) 0 (λ e. q (sym e)) in
        no_change f g most ne (height s) (level f g with-x) s.deficits ds (rw (new, all, first, of-g))
        (get_or-set_other s.deficits x f (zero_deficit + quantum) 0 (λ e. p (sym e))) of-g lf lg

    g-enters : (x ≡ f → ⊥) → x ≡ g → listed g s ≡ 0 → x < length s.deficits → Entered
    g-enters p e out h =
        let once : occurs g (x ∷ []) ≡ 1 = subst (λ y. occurs y (x ∷ []) ≡ 1) e (occurs-self x) in
        let new : eqb (occurs g (s.new ++ x ∷ [])) 0 ≡ false =
        ne_eqb (occurs g (s.new ++ x ∷ [])) 0 (λ z. omega (arith, occurs-end x g s.new)) in
        let all : eqb (occurs g ((s.new ++ x ∷ []) ++ s.old)) 0 ≡ false =
        ne_eqb (occurs g ((s.new ++ x ∷ []) ++ s.old)) 0
        (λ z. omega (arith, occurs-end x g s.new, occurs-append g (s.new ++ x ∷ []) s.old)) in
        let was : eqb (occurs g (s.new ++ s.old)) 0 ≡ true =
        eq-eqb (occurs g (s.new ++ s.old)) 0 (occurs-append g s.new s.old ∙ out) in
        let mine : get_or ds g 0 ≡ zero_deficit + quantum =
        subst (λ y. get_or ds y 0 ≡ zero_deficit + quantum) e (get_or-set_same s.deficits x (zero_deficit + quantum) 0 h) in
        let of-f : get_or ds f 0 ≡ deficit_of s f = get_or-set_other s.deficits x f (zero_deficit + quantum) 0 (λ q. p (sym q)) in
        let u = level-entered (before f g ((s.new ++ x ∷ []) ++ s.old)) in
        record {
          at_most = rw (new, all, was, mine, of-f) (omega (arith, u));
          low-f = omega (arith, of-f);
          low-g = omega (arith, mine);
        }

    enters : listed f s ≡ 1 → listed x s ≡ 0 → x < length s.deficits → Entered × (listed f with-x ≡ 1)
    enters has-f out h =
        let not_f : x ≡ f → ⊥ = λ e. clash (ap (λ y. listed y s) (sym e) ∙ out) in
        (go not_f (eqb x g) refl, omega (arith, occurs-end x f s.new, occurs-other x f not_f, has-f))
      where
        clash : listed f s ≡ 0 → ⊥
        clash a = omega (arith, a, has-f)

        go : (x ≡ f → ⊥) → (b : Bool) → eqb x g ≡ b → Entered
        go p true e = g-enters p (eqb-true x g e) (ap (λ y. listed y s) (sym (eqb-true x g e)) ∙ out) h
        go p false e = other-enters p (eqb-false x g e)

  arrival : (l : Line) (x : ℕ) → Inv l → x < 64 → Stepped l (arrives x)
  unfolding after
  arrival l x v low = go (is_listed l.lists x) refl (arrival-keeps l.counts l.lists x v.sound low)
    where
      go : (b : Bool) → is_listed l.lists x ≡ b →
          Sound (set l.counts x (get_or l.counts x 0 + 1)) (cond b l.lists (entered l.lists x)) →
          let m : Line = record
          { counts = set l.counts x (get_or l.counts x 0 + 1); lists = cond b l.lists (entered l.lists x) } in
          Inv m × Balance 0 0 l m
      go true e h = (record { sound = h; has-f = v.has-f; low-f = v.low-f; low-g = v.low-g }, omega arith)
      go false e h =
          let s = l.lists in
          let out : listed x s ≡ 0 =
          eqb-true (listed x s) 0 (not-false (eqb (listed x s) 0) e) in
          let r =
          subst (λ m. Shared f g most (height s) (level f g m) s.deficits m.deficits × (listed f m ≡ 1))
          (sym (entered-lists s x))
          (enters s x v.low-f v.low-g v.has-f out (omega (arith, v.sound.deficits-long))) in
          (record { sound = h; has-f = r.1; low-f = r.0.low-f; low-g = r.0.low-g }, omega (arith, r.0.at_most))

  step : (l : Line) (e : Event) → Inv l → HasPackets f l e → Fits most e → most ≤ 65535 → Stepped l e
  step l (arrives x) v p fit cap = arrival l x v fit
  step l (departs size) v p fit cap = departure l size v p fit cap

  -- ── a stretch ──

  run : (l : Line) (events : List Event) → Inv l → AtEach f l events → AllFit most events → most ≤ 65535 →
      Inv (final l events) × Balance (served f l events) (served g l events) l (final l events)
  unfolding final served
  run l [] v p fit cap = (v, omega arith)
  run l (e ∷ events) v (p, ps) (fit, fits) cap =
      let a = step l e v p fit cap in
      let b = run (after l e) events a.0 ps fits cap in
      (b.0, omega (arith, a.1, b.1))

  bounded : (l : Line) (events : List Event) → Inv l → f < 64 → AtEach f l events → AllFit most events → most ≤ 65535 →
      served g l events ≤ 2 * served f l events + (3 * most + 5 * quantum)
  bounded l events v low p fit cap =
      let r = run l events v p fit cap in
      let s = l.lists in
      let m = final l events in
      let t = m.lists in
      let all-g = range_at s.deficits v.sound.deficits-long (facts_at l.counts s v.sound).range g in
      let high-f = (facts_at m.counts t r.0.sound).range f low in
      let top = level-high (eqb (occurs g (order_of s)) 0) (before f g (order_of s)) (eqb (occurs g s.new) 0) (deficit_of s g) all-g in
      let bottom = level-low (eqb (occurs g (order_of t)) 0) (before f g (order_of t)) (eqb (occurs g t.new) 0) (deficit_of t g) most
      r.0.low-g in
      omega (arith, r.1, top, bottom, high-f, v.low-f)

pub never-starved : NeverStarved
never-starved l events f g most h ne cap fit w low =
    bounded f g most ne l events
    (record { sound = h; has-f = holder-listed l.counts l.lists f h w.at-start; low-f = w.deficit; low-g = low })
    (holder-low l.counts l.lists f h w.at-start) w.at_each fit cap
