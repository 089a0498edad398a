-- Two flows with packets, f and g, gain quanta in turn: the deficit of f, with a quantum where f stands before g, less the deficit of g,
-- stays as it is at each move.
use mathlib.Core.Path.{◌≡◌, refl, ap, sym, subst, ◌∙◌}
use mathlib.Core.Bool.{Bool, true, false, cond, true≢false}
use mathlib.Core.List.{List, [], ◌∷◌, ◌++◌, append_assoc, append-nil}
use Prim.Native.Nat.{ℕ, ◌+◌, ◌≤◌, ◌<◌}
use native.Mathlib.Omega.{arith}
use lib.Dec.{eqb}
use lib.ListN.{get_or, length}
use lib.Seq.{get_or-set_same, get_or-set_other}
use borrow.Author.Tests.{eqb-true, eqb-false, ltb-true}
use Rattle.schedule.specs.Choosing.{
  Look,
  at_new,
  at_old,
  has_none,
  look,
  look_new,
  look_old,
  moves,
  new_goes_old,
  nobody,
  old_goes_last,
  old_leaves,
  owes,
  raised,
  serves,
}
use Rattle.schedule.specs.TwoLists.{TwoLists, listed, lists, occurs, quantum, zero_deficit}
use Rattle.schedule.proofs.Occurs.{occurs-append, occurs-head, occurs-other, occurs-self}
use Rattle.schedule_guarantees.proofs.Before.{before, before-first, before_here, before-second, before-skip, before-there}
use Rattle.schedule_guarantees.proofs.Moves.{Proper, below}

-- a quantum where f stands before g
abbrev pub ahead : (f g : ℕ) (order : List ℕ) → ℕ
ahead f g order = cond (before f g order) quantum 0

-- the order of service
abbrev pub order_of : TwoLists → List ℕ
order_of l = l.new ++ l.old

-- first: f stood before g at the start; top: the deficit of g then, or what a gain makes at most
pub record Lag (f g most top : ℕ) (first : Bool) (order ds : List ℕ) : Type 0 where
  pub low-f : zero_deficit ≤ get_or ds f 0 + most
  pub low-g : zero_deficit ≤ get_or ds g 0 + most
  pub high-g : get_or ds g 0 ≤ top
  -- f went behind g with a quantum
  pub behind : before f g order ≡ false → first ≡ true → zero_deficit + quantum ≤ get_or ds f 0 + most

pub record Turned (f g most top : ℕ) (first : Bool) (order ds order' ds' : List ℕ) : Type 0 where
  pub level : get_or ds' f 0 + ahead f g order' + get_or ds g 0 ≡ get_or ds f 0 + ahead f g order + get_or ds' g 0
  pub lag : Lag f g most top first order' ds'

module _ (f g most top : ℕ) (enough : zero_deficit + quantum ≤ top + 1) (ne : f ≡ g → ⊥) (first : Bool) where
  -- the order of f and g is the same, and so are their deficits
  pub as_before : (order ds order' ds' : List ℕ) → before f g order' ≡ before f g order → get_or ds' f 0 ≡ get_or ds f 0 → get_or ds' g 0 ≡
      get_or ds g 0 →
      Lag f g most top first order ds → Turned f g most top first order ds order' ds'
  as_before order ds order' ds' e a b k =
      record {
        level = rw (e, a, b) (omega arith);
        lag = record {
          low-f = omega (arith, k.low-f);
          low-g = omega (arith, k.low-g);
          high-g = omega (arith, k.high-g);
          behind = λ z p. omega (arith, k.behind (sym e ∙ z) p);
        };
      }

  module _ (x : ℕ) (rest ds : List ℕ) (k : Lag f g most top first (x ∷ rest) ds) where
    -- another flow goes last, or leaves
    other_last : (x ≡ f → ⊥) → (x ≡ g → ⊥) → before f g (rest ++ x ∷ []) ≡ before f g (x ∷ rest)
    other_last p q =
        before-skip f g x rest [] p q ∙ ap (before f g) (append-nil rest) ∙ sym (before-skip f g x [] rest p q)

    other-turns : (x ≡ f → ⊥) → (x ≡ g → ⊥) → Turned f g most top first (x ∷ rest) ds (rest ++ x ∷ []) ds
    other-turns p q = as_before (x ∷ rest) ds (rest ++ x ∷ []) ds (other_last p q) refl refl k

    other-leaves : (x ≡ f → ⊥) → (x ≡ g → ⊥) → Turned f g most top first (x ∷ rest) ds rest ds
    other-leaves p q = as_before (x ∷ rest) ds rest ds (sym (before-skip f g x [] rest p q)) refl refl k

    other-gains : (x ≡ f → ⊥) → (x ≡ g → ⊥) → Turned f g most top first (x ∷ rest) ds (rest ++ x ∷ []) (raised ds x)
    other-gains p q =
        as_before (x ∷ rest) ds (rest ++ x ∷ []) (raised ds x) (other_last p q)
        (get_or-set_other ds x f (get_or ds x 0 + quantum) 0 (λ e. p (sym e)))
        (get_or-set_other ds x g (get_or ds x 0 + quantum) 0 (λ e. q (sym e))) k

  f-gains : (rest ds : List ℕ) → Lag f g most top first (f ∷ rest) ds → occurs f (f ∷ rest) ≡ 1 → occurs g (f ∷ rest) ≡ 1 → f < length
      ds → get_or ds f 0 < zero_deficit →
      Turned f g most top first (f ∷ rest) ds (rest ++ f ∷ []) (raised ds f)
  f-gains rest ds k a b h low =
      let now : before f g (rest ++ f ∷ []) ≡ false =
      before-second f g rest (f ∷ []) (omega (arith, occurs-head f f rest, occurs-self f))
      (omega (arith, occurs-head f g rest, occurs-other f g ne)) in
      let mine : get_or (raised ds f) f 0 ≡ get_or ds f 0 + quantum = get_or-set_same ds f (get_or ds f 0 + quantum) 0 h in
      let other : get_or (raised ds f) g 0 ≡ get_or ds g 0 = get_or-set_other ds f g (get_or ds f 0 + quantum) 0 (λ e. ne (sym e)) in
      record {
        level = rw (now, before_here f g rest, mine, other) (omega arith);
        lag = record {
          low-f = omega (arith, mine, k.low-f);
          low-g = omega (arith, other, k.low-g);
          high-g = omega (arith, other, k.high-g);
          behind = λ z p. omega (arith, mine, k.low-f);
        };
      }

  g-gains : (rest ds : List ℕ) → Lag f g most top first (g ∷ rest) ds → occurs f (g ∷ rest) ≡ 1 → occurs g (g ∷ rest) ≡ 1 → g < length
      ds → get_or ds g 0 < zero_deficit →
      Turned f g most top first (g ∷ rest) ds (rest ++ g ∷ []) (raised ds g)
  g-gains rest ds k a b h low =
      let now : before f g (rest ++ g ∷ []) ≡ true =
      before-first f g rest (g ∷ []) (omega (arith, occurs-head g g rest, occurs-self g))
      (omega (arith, occurs-head g f rest, occurs-other g f (λ e. ne (sym e)))) in
      let mine : get_or (raised ds g) g 0 ≡ get_or ds g 0 + quantum = get_or-set_same ds g (get_or ds g 0 + quantum) 0 h in
      let other : get_or (raised ds g) f 0 ≡ get_or ds f 0 = get_or-set_other ds g f (get_or ds g 0 + quantum) 0 ne in
      record {
        level = rw (now, before-there f g rest ne, mine, other) (omega arith);
        lag = record {
          low-f = omega (arith, other, k.low-f);
          low-g = omega (arith, mine, k.low-g);
          high-g = omega (arith, mine, low, enough);
          behind = λ z p. absurd (true≢false (sym now ∙ z));
        };
      }

  gains : (x : ℕ) (rest ds : List ℕ) → Lag f g most top first (x ∷ rest) ds → occurs f (x ∷ rest) ≡ 1 → occurs g (x ∷ rest) ≡ 1 → x <
      length ds → get_or ds x 0 < zero_deficit →
      Turned f g most top first (x ∷ rest) ds (rest ++ x ∷ []) (raised ds x)
  gains x rest ds k a b h low = go (eqb x f) refl
    where
      is-g : (d : Bool) → eqb x g ≡ d → (x ≡ f → ⊥) → Turned f g most top first (x ∷ rest) ds (rest ++ x ∷ []) (raised ds x)
      is-g true e p =
          subst (λ y. Lag f g most top first (y ∷ rest) ds → occurs f (y ∷ rest) ≡ 1 → occurs g (y ∷ rest) ≡ 1 → y < length ds → get_or ds
          y 0 < zero_deficit →
          Turned f g most top first (y ∷ rest) ds (rest ++ y ∷ []) (raised ds y)) (sym (eqb-true x g e)) (g-gains rest ds) k a b h low
      is-g false e p = other-gains x rest ds k p (eqb-false x g e)

      go : (c : Bool) → eqb x f ≡ c → Turned f g most top first (x ∷ rest) ds (rest ++ x ∷ []) (raised ds x)
      go true e =
          subst (λ y. Lag f g most top first (y ∷ rest) ds → occurs f (y ∷ rest) ≡ 1 → occurs g (y ∷ rest) ≡ 1 → y < length ds → get_or ds
          y 0 < zero_deficit →
          Turned f g most top first (y ∷ rest) ds (rest ++ y ∷ []) (raised ds y)) (sym (eqb-true x f e)) (f-gains rest ds) k a b h low
      go false e = is-g (eqb x g) refl (eqb-false x f e)

  -- ── a look ──

  abbrev pub Turns : TwoLists → Look → Type 0
  Turns l nobody = Unit {0}
  Turns l (serves x) = x ≡ f → before f g (order_of l) ≡ true
  Turns l (moves k m) = Turned f g most top first (order_of l) l.deficits (order_of m) m.deficits

  module _ (counts : List ℕ) (held-f : get_or counts f 0 ≡ 0 → ⊥) (held-g : get_or counts g 0 ≡ 0 → ⊥) where
    not_f : (x : ℕ) → get_or counts x 0 ≡ 0 → x ≡ f → ⊥
    not_f x z e = held-f (ap (λ i. get_or counts i 0) (sym e) ∙ z)

    not-g : (x : ℕ) → get_or counts x 0 ≡ 0 → x ≡ g → ⊥
    not-g x z e = held-g (ap (λ i. get_or counts i 0) (sym e) ∙ z)

    head_first : (x : ℕ) (rest : List ℕ) → x ≡ f → before f g (x ∷ rest) ≡ true
    head_first x rest e = rw e (before_here f g rest)

    at_new_lem : (x : ℕ) (rest old ds : List ℕ) → Lag f g most top first (x ∷ (rest ++ old)) ds → occurs f (x ∷ (rest ++ old)) ≡ 1 →
        occurs g (x ∷ (rest ++ old)) ≡ 1 → x < length ds → Turns (lists (x ∷ rest) old ds) (at_new counts x rest old ds)
    at_new_lem x rest old ds k a b h = go (owes ds x) refl (has_none counts x) refl
      where
        go : (c : Bool) → owes ds x ≡ c → (d : Bool) → has_none counts x ≡ d →
            Turns (lists (x ∷ rest) old ds)
            (cond c (moves new_goes_old (lists rest (old ++ x ∷ []) (raised ds x)))
            (cond d (moves new_goes_old (lists rest (old ++ x ∷ []) ds)) (serves x)))
        go true q d e =
            subst (λ o. Turned f g most top first (x ∷ (rest ++ old)) ds o (raised ds x)) (append_assoc rest old (x ∷ []))
            (gains x (rest ++ old) ds k a b h (ltb-true (get_or ds x 0) zero_deficit q))
        go false q true e =
            let z = eqb-true (get_or counts x 0) 0 e in
            subst (λ o. Turned f g most top first (x ∷ (rest ++ old)) ds o ds) (append_assoc rest old (x ∷ []))
            (other-turns x (rest ++ old) ds k (not_f x z) (not-g x z))
        go false q false e = head_first x (rest ++ old)

    at_old_lem : (x : ℕ) (rest ds : List ℕ) → Lag f g most top first (x ∷ rest) ds → occurs f (x ∷ rest) ≡ 1 → occurs g (x ∷ rest) ≡ 1 → x <
        length ds →
        Turns (lists [] (x ∷ rest) ds) (at_old counts x rest ds)
    at_old_lem x rest ds k a b h = go (owes ds x) refl (has_none counts x) refl
      where
        go : (c : Bool) → owes ds x ≡ c → (d : Bool) → has_none counts x ≡ d →
            Turns (lists [] (x ∷ rest) ds)
            (cond c (moves old_goes_last (lists [] (rest ++ x ∷ []) (raised ds x)))
            (cond d (moves old_leaves (lists [] rest ds)) (serves x)))
        go true q d e = gains x rest ds k a b h (ltb-true (get_or ds x 0) zero_deficit q)
        go false q true e = let z = eqb-true (get_or counts x 0) 0 e in other-leaves x rest ds k (not_f x z) (not-g x z)
        go false q false e = head_first x rest

    abbrev Premised : (new old ds : List ℕ) → Type 0
    Premised new old ds =
        Proper (lists new old ds) × Lag f g most top first (new ++ old) ds × (listed f (lists new old ds) ≡ 1) ×
        (listed g (lists new old ds) ≡ 1)

    turns-old : (old ds : List ℕ) → Premised [] old ds → Turns (lists [] old ds) (look_old counts ds old)
    turns-old [] ds h = tt
    turns-old (x ∷ rest) ds (p, k, a, b) =
        at_old_lem x rest ds k (omega (arith, occurs-append f [] (x ∷ rest), a)) (omega (arith, occurs-append g [] (x ∷ rest), b))
        (below (length ds) x (listed x (lists [] (x ∷ rest) ds)) (omega (arith, occurs-head x x rest, occurs-self x)) (p.numbered x))

    turns-new : (new old ds : List ℕ) → Premised new old ds → Turns (lists new old ds) (look_new counts ds old new)
    turns-new [] old ds h = turns-old old ds h
    turns-new (x ∷ rest) old ds (p, k, a, b) =
        at_new_lem x rest old ds k (occurs-append f (x ∷ rest) old ∙ a) (occurs-append g (x ∷ rest) old ∙ b)
        (below (length ds) x (listed x (lists (x ∷ rest) old ds)) (omega (arith, occurs-head x x rest, occurs-self x)) (p.numbered x))

    pub turns-law : (l : TwoLists) → Proper l → Lag f g most top first (order_of l) l.deficits → listed f l ≡ 1 → listed g l ≡ 1 →
        Turns l (look counts l)
    unfolding look
    turns-law l p k a b = turns-new l.new l.old l.deficits (p, k, a, b)
