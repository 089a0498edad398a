-- A flow f with packets, and any other, g: a level of g, from its deficit, its list and whether it stands before f, rises by at most
-- twice what the deficit of f gains.
use mathlib.Core.Path.{◌≡◌, refl, ap, sym, subst, ◌∙◌}
use mathlib.Core.Bool.{Bool, true, false, cond}
use mathlib.Core.List.{List, [], ◌∷◌, ◌++◌, append_assoc, append-nil}
use Prim.Native.Nat.{ℕ, ◌+◌, ◌*◌, ◌≤◌, ◌<◌}
use native.Mathlib.Omega.{arith}
use lib.Dec.{eqb}
use lib.ListN.{get_or, length}
use lib.Seq.{get_or-set_same, get_or-set_other}
use borrow.Author.Tests.{eq-eqb, eqb-true, eqb-false, ltb-false, ne_eqb}
use Rattle.schedule.specs.Choosing.{
  Look,
  at_new,
  at_old,
  has_none,
  look,
  look_new,
  look_old,
  moves,
  new_goes_old,
  nobody,
  old_goes_last,
  old_leaves,
  owes,
  raised,
  serves,
}
use Rattle.schedule.specs.TwoLists.{TwoLists, listed, lists, occurs, quantum, zero_deficit}
use Rattle.schedule.proofs.Occurs.{occurs-append, occurs-end, occurs-head, occurs-none, occurs-other, occurs-self}
use Rattle.schedule_guarantees.proofs.Before.{before, before-first, before_here, before-skip, before-there}
use Rattle.schedule_guarantees.proofs.Levels.{order_of}
use Rattle.schedule_guarantees.proofs.Moves.{Proper, below}

-- ── the level of g ──

-- out: in neither list; behind: f stands before it; old: it is not in the new list
abbrev pub level_by : (out behind old : Bool) (deficit : ℕ) → ℕ
level_by out behind old deficit =
    cond out (zero_deficit + 2 * quantum) (deficit + cond behind 0 (cond old (2 * quantum) quantum))

abbrev pub level_in : (f g : ℕ) (old : Bool) (order ds : List ℕ) → ℕ
level_in f g old order ds = level_by (eqb (occurs g order) 0) (before f g order) old (get_or ds g 0)

abbrev pub level : (f g : ℕ) → TwoLists → ℕ
level f g l = level_in f g (eqb (occurs g l.new) 0) (order_of l) l.deficits

rises : (out behind old old' : Bool) (d : ℕ) → level_by out behind old' d ≤ level_by out true old d + 2 * quantum
rises true behind old old' d = omega arith
rises false true old old' d = omega arith
rises false false old true d = omega arith
rises false false old false d = omega arith

pub level-high : (out behind old : Bool) (d : ℕ) → d ≤ zero_deficit + quantum → level_by out behind old d ≤ zero_deficit + 3 * quantum
level-high true behind old d h = omega arith
level-high false true old d h = omega arith
level-high false false true d h = omega arith
level-high false false false d h = omega arith

pub level-low : (out behind old : Bool) (d most : ℕ) → zero_deficit ≤ d + most → zero_deficit ≤ level_by out behind old d + most
level-low true behind old d most h = omega arith
level-low false true old d most h = omega arith
level-low false false true d most h = omega arith
level-low false false false d most h = omega arith

-- of a listed flow
gained-level : (old : Bool) (d : ℕ) → d + quantum ≤ level_by false false old d
gained-level true d = omega arith
gained-level false d = omega arith

occurs-last : (x j : ℕ) (l : List ℕ) → occurs j (l ++ x ∷ []) ≡ occurs j (x ∷ l)
occurs-last x j l = omega (arith, occurs-end x j l, occurs-head x j l)

-- ── a move ──

pub record Shared (f g most : ℕ) (was now : ℕ) (ds ds' : List ℕ) : Type 0 where
  pub at_most : now + 2 * get_or ds f 0 ≤ was + 2 * get_or ds' f 0
  pub low-f : zero_deficit ≤ get_or ds' f 0 + most
  pub low-g : zero_deficit ≤ get_or ds' g 0 + most

module _ (f g most : ℕ) (ne : f ≡ g → ⊥) where
  pub no_change : (was now : ℕ) (ds ds' : List ℕ) → now ≡ was → get_or ds' f 0 ≡ get_or ds f 0 → get_or ds' g 0 ≡ get_or ds g 0 →
      zero_deficit ≤ get_or ds f 0 + most → zero_deficit ≤ get_or ds g 0 + most → Shared f g most was now ds ds'
  no_change was now ds ds' e a b lf lg =
      record { at_most = omega (arith, e, a); low-f = omega (arith, a); low-g = omega (arith, b) }

  module _ (rest ds : List ℕ) (lf : zero_deficit ≤ get_or ds f 0 + most) (lg : zero_deficit ≤ get_or ds g 0 + most) where
    -- f gains
    f-gains : (old old' : Bool) → f < length ds →
        Shared f g most (level_in f g old (f ∷ rest) ds) (level_in f g old' (rest ++ f ∷ []) (raised ds f)) ds (raised ds f)
    f-gains old old' h =
        let mine : get_or (raised ds f) f 0 ≡ get_or ds f 0 + quantum = get_or-set_same ds f (get_or ds f 0 + quantum) 0 h in
        let other : get_or (raised ds f) g 0 ≡ get_or ds g 0 = get_or-set_other ds f g (get_or ds f 0 + quantum) 0 (λ e. ne (sym e)) in
        let u = rises (eqb (occurs g (f ∷ rest)) 0) (before f g (rest ++ f ∷ [])) old old' (get_or ds g 0) in
        record {
          at_most = rw (occurs-last f g rest, before_here f g rest, mine, other) (omega (arith, u));
          low-f = omega (arith, mine);
          low-g = omega (arith, other);
        }

    -- g goes behind f
    behind-now : occurs f (g ∷ rest) ≡ 1 → occurs g (g ∷ rest) ≤ 1 → before f g (rest ++ g ∷ []) ≡ true
    behind-now a b =
        before-first f g rest (g ∷ []) (omega (arith, occurs-head g g rest, occurs-self g))
        (omega (arith, occurs-head g f rest, occurs-other g f (λ e. ne (sym e))))

    in_list : eqb (occurs g (g ∷ rest)) 0 ≡ false
    in_list = ne_eqb (occurs g (g ∷ rest)) 0 (λ z. omega (arith, occurs-head g g rest, occurs-self g))

    g-gains : (old old' : Bool) → occurs f (g ∷ rest) ≡ 1 → occurs g (g ∷ rest) ≤ 1 → g < length ds →
        Shared f g most (level_in f g old (g ∷ rest) ds) (level_in f g old' (rest ++ g ∷ []) (raised ds g)) ds (raised ds g)
    g-gains old old' a b h =
        let mine : get_or (raised ds g) g 0 ≡ get_or ds g 0 + quantum = get_or-set_same ds g (get_or ds g 0 + quantum) 0 h in
        let other : get_or (raised ds g) f 0 ≡ get_or ds f 0 = get_or-set_other ds g f (get_or ds g 0 + quantum) 0 ne in
        let u = gained-level old (get_or ds g 0) in
        record {
          at_most = rw (occurs-last g g rest, in_list, behind-now a b, before-there f g rest ne, mine, other) (omega (arith, u));
          low-f = omega (arith, other);
          low-g = omega (arith, mine);
        }

    g-turns : (old old' : Bool) → occurs f (g ∷ rest) ≡ 1 → occurs g (g ∷ rest) ≤ 1 →
        Shared f g most (level_in f g old (g ∷ rest) ds) (level_in f g old' (rest ++ g ∷ []) ds) ds ds
    g-turns old old' a b =
        let u = gained-level old (get_or ds g 0) in
        record {
          at_most = rw (occurs-last g g rest, in_list, behind-now a b, before-there f g rest ne) (omega (arith, u));
          low-f = lf;
          low-g = lg;
        }

    g-leaves : occurs g (g ∷ rest) ≤ 1 → zero_deficit ≤ get_or ds g 0 → (old : Bool) →
        Shared f g most (level_in f g true (g ∷ rest) ds) (level_in f g old rest ds) ds ds
    g-leaves b d old =
        let gone : occurs g rest ≡ 0 = omega (arith, occurs-head g g rest, occurs-self g) in
        record { at_most = rw (gone, in_list, before-there f g rest ne) (omega arith); low-f = lf; low-g = lg }

    -- another flow goes last, or leaves
    module _ (x : ℕ) (p : x ≡ f → ⊥) (q : x ≡ g → ⊥) where
      other-turns : (old : Bool) (ds' : List ℕ) → get_or ds' f 0 ≡ get_or ds f 0 → get_or ds' g 0 ≡ get_or ds g 0 →
          Shared f g most (level_in f g old (x ∷ rest) ds) (level_in f g old (rest ++ x ∷ []) ds') ds ds'
      other-turns old ds' a b =
          let o : before f g (rest ++ x ∷ []) ≡ before f g (x ∷ rest) =
          before-skip f g x rest [] p q ∙ ap (before f g) (append-nil rest) ∙ sym (before-skip f g x [] rest p q) in
          no_change (level_in f g old (x ∷ rest) ds) (level_in f g old (rest ++ x ∷ []) ds') ds ds' (rw (occurs-last x g rest, o, b)) a b
          lf lg

      other-leaves : (old : Bool) → Shared f g most (level_in f g old (x ∷ rest) ds) (level_in f g old rest ds) ds ds
      other-leaves old =
          let n : occurs g (x ∷ rest) ≡ occurs g rest = omega (arith, occurs-head x g rest, occurs-other x g q) in
          no_change (level_in f g old (x ∷ rest) ds) (level_in f g old rest ds) ds ds (rw (n, before-skip f g x [] rest p q)) refl refl lf lg

  -- ── a look ──

  module _ (x : ℕ) (rest ds : List ℕ) (lf : zero_deficit ≤ get_or ds f 0 + most) (lg : zero_deficit ≤ get_or ds g 0 + most)
      (a : occurs f (x ∷ rest) ≡ 1) (b : occurs g (x ∷ rest) ≤ 1) where
    gain-last : (old old' : Bool) → ((x ≡ g → ⊥) → old' ≡ old) → x < length ds →
        Shared f g most (level_in f g old (x ∷ rest) ds) (level_in f g old' (rest ++ x ∷ []) (raised ds x)) ds (raised ds x)
    gain-last old old' same h = go (eqb x f) refl (eqb x g) refl
      where
        go : (c : Bool) → eqb x f ≡ c → (d : Bool) → eqb x g ≡ d →
            Shared f g most (level_in f g old (x ∷ rest) ds) (level_in f g old' (rest ++ x ∷ []) (raised ds x)) ds (raised ds x)
        go true p d q =
            subst (λ y. y < length ds →
            Shared f g most (level_in f g old (y ∷ rest) ds) (level_in f g old' (rest ++ y ∷ []) (raised ds y)) ds (raised ds y))
            (sym (eqb-true x f p)) (f-gains rest ds lf lg old old') h
        go false p true q =
            subst (λ y. occurs f (y ∷ rest) ≡ 1 → occurs g (y ∷ rest) ≤ 1 → y < length ds →
            Shared f g most (level_in f g old (y ∷ rest) ds) (level_in f g old' (rest ++ y ∷ []) (raised ds y)) ds (raised ds y))
            (sym (eqb-true x g q)) (g-gains rest ds lf lg old old') a b h
        go false p false q =
            rw (same (eqb-false x g q))
            (other-turns rest ds lf lg x (eqb-false x f p) (eqb-false x g q) old (raised ds x)
            (get_or-set_other ds x f (get_or ds x 0 + quantum) 0 (λ e. eqb-false x f p (sym e)))
            (get_or-set_other ds x g (get_or ds x 0 + quantum) 0 (λ e. eqb-false x g q (sym e))))

    turn_last : (old old' : Bool) → ((x ≡ g → ⊥) → old' ≡ old) → (x ≡ f → ⊥) →
        Shared f g most (level_in f g old (x ∷ rest) ds) (level_in f g old' (rest ++ x ∷ []) ds) ds ds
    turn_last old old' same p = go (eqb x g) refl
      where
        go : (d : Bool) → eqb x g ≡ d → Shared f g most (level_in f g old (x ∷ rest) ds) (level_in f g old' (rest ++ x ∷ []) ds) ds ds
        go true q =
            subst (λ y. occurs f (y ∷ rest) ≡ 1 → occurs g (y ∷ rest) ≤ 1 →
            Shared f g most (level_in f g old (y ∷ rest) ds) (level_in f g old' (rest ++ y ∷ []) ds) ds ds)
            (sym (eqb-true x g q)) (g-turns rest ds lf lg old old') a b
        go false q = rw (same (eqb-false x g q)) (other-turns rest ds lf lg x p (eqb-false x g q) old ds refl refl)

    leave : (x ≡ f → ⊥) → zero_deficit ≤ get_or ds x 0 → Shared f g most (level_in f g true (x ∷ rest) ds) (level_in f g true rest ds) ds ds
    leave p d = go (eqb x g) refl
      where
        go : (c : Bool) → eqb x g ≡ c → Shared f g most (level_in f g true (x ∷ rest) ds) (level_in f g true rest ds) ds ds
        go true q =
            subst (λ y. occurs g (y ∷ rest) ≤ 1 → zero_deficit ≤ get_or ds y 0 →
            Shared f g most (level_in f g true (y ∷ rest) ds) (level_in f g true rest ds) ds ds)
            (sym (eqb-true x g q)) (λ u v. g-leaves rest ds lf lg u v true) b d
        go false q = other-leaves rest ds lf lg x p (eqb-false x g q) true

  abbrev pub Shares : TwoLists → Look → Type 0
  Shares l nobody = Unit {0}
  Shares l (serves x) = Unit {0}
  Shares l (moves k m) = Shared f g most (level f g l) (level f g m) l.deficits m.deficits

  module _ (counts : List ℕ) (held : get_or counts f 0 ≡ 0 → ⊥) where
    not_f : (x : ℕ) → get_or counts x 0 ≡ 0 → x ≡ f → ⊥
    not_f x z e = held (ap (λ i. get_or counts i 0) (sym e) ∙ z)

    -- what is asked of two lists
    pub record Asked (l : TwoLists) : Type 0 where
      pub proper : Proper l
      pub has-f : listed f l ≡ 1
      pub low-f : zero_deficit ≤ get_or l.deficits f 0 + most
      pub low-g : zero_deficit ≤ get_or l.deficits g 0 + most

    shares-new : (x : ℕ) (rest old ds : List ℕ) → Asked (lists (x ∷ rest) old ds) → Shares (lists (x ∷ rest) old ds)
        (at_new counts x rest old ds)
    shares-new x rest old ds k = go (owes ds x) (has_none counts x) refl
      where
        a : occurs f (x ∷ (rest ++ old)) ≡ 1
        a = occurs-append f (x ∷ rest) old ∙ k.has-f

        b : occurs g (x ∷ (rest ++ old)) ≤ 1
        b = omega (arith, occurs-append g (x ∷ rest) old, k.proper.once g)

        h : x < length ds
        h = below (length ds) x (listed x (lists (x ∷ rest) old ds)) (omega (arith, occurs-head x x rest, occurs-self x))
            (k.proper.numbered x)

        same : (x ≡ g → ⊥) → eqb (occurs g rest) 0 ≡ eqb (occurs g (x ∷ rest)) 0
        same q = let e : occurs g (x ∷ rest) ≡ occurs g rest = omega (arith, occurs-head x g rest, occurs-other x g q) in ap
            (λ n. eqb n 0) (sym e)

        go : (c d : Bool) → has_none counts x ≡ d →
            Shares (lists (x ∷ rest) old ds)
            (cond c (moves new_goes_old (lists rest (old ++ x ∷ []) (raised ds x)))
            (cond d (moves new_goes_old (lists rest (old ++ x ∷ []) ds)) (serves x)))
        go true d e =
            subst (λ o. Shared f g most (level_in f g (eqb (occurs g (x ∷ rest)) 0) (x ∷ (rest ++ old)) ds)
            (level_in f g (eqb (occurs g rest) 0) o (raised ds x)) ds (raised ds x)) (append_assoc rest old (x ∷ []))
            (gain-last x (rest ++ old) ds k.low-f k.low-g a b (eqb (occurs g (x ∷ rest)) 0) (eqb (occurs g rest) 0) same h)
        go false true e =
            subst (λ o. Shared f g most (level_in f g (eqb (occurs g (x ∷ rest)) 0) (x ∷ (rest ++ old)) ds)
            (level_in f g (eqb (occurs g rest) 0) o ds) ds ds) (append_assoc rest old (x ∷ []))
            (turn_last x (rest ++ old) ds k.low-f k.low-g a b (eqb (occurs g (x ∷ rest)) 0) (eqb (occurs g rest) 0) same
            (not_f x (eqb-true (get_or counts x 0) 0 e)))
        go false false e = tt

    shares-old : (x : ℕ) (rest ds : List ℕ) → Asked (lists [] (x ∷ rest) ds) → Shares (lists [] (x ∷ rest) ds) (at_old counts x rest ds)
    shares-old x rest ds k = go (owes ds x) refl (has_none counts x) refl
      where
        none-new : eqb (occurs g []) 0 ≡ true
        none-new = eq-eqb (occurs g []) 0 (occurs-none g)

        a : occurs f (x ∷ rest) ≡ 1
        a = omega (arith, occurs-none f, k.has-f)

        b : occurs g (x ∷ rest) ≤ 1
        b = omega (arith, occurs-none g, k.proper.once g)

        h : x < length ds
        h = below (length ds) x (listed x (lists [] (x ∷ rest) ds)) (omega (arith, occurs-head x x rest, occurs-self x))
            (k.proper.numbered x)

        go : (c : Bool) → owes ds x ≡ c → (d : Bool) → has_none counts x ≡ d →
            Shares (lists [] (x ∷ rest) ds)
            (cond c (moves old_goes_last (lists [] (rest ++ x ∷ []) (raised ds x)))
            (cond d (moves old_leaves (lists [] rest ds)) (serves x)))
        go true q d e =
            gain-last x rest ds k.low-f k.low-g a b (eqb (occurs g []) 0) (eqb (occurs g []) 0) (λ n. refl) h
        go false q true e =
            subst (λ o. Shared f g most (level_in f g o (x ∷ rest) ds) (level_in f g o rest ds) ds ds) (sym none-new)
            (leave x rest ds k.low-f k.low-g a b (not_f x (eqb-true (get_or counts x 0) 0 e)) (ltb-false (get_or ds x 0) zero_deficit q))
        go false q false e = tt

    by_old : (old ds : List ℕ) → Asked (lists [] old ds) → Shares (lists [] old ds) (look_old counts ds old)
    by_old [] ds k = tt
    by_old (x ∷ rest) ds k = shares-old x rest ds k

    by-new : (new old ds : List ℕ) → Asked (lists new old ds) → Shares (lists new old ds) (look_new counts ds old new)
    by-new [] old ds k = by_old old ds k
    by-new (x ∷ rest) old ds k = shares-new x rest old ds k

    pub shares-law : (l : TwoLists) → Asked l → Shares l (look counts l)
    unfolding look
    shares-law l k = by-new l.new l.old l.deficits k
