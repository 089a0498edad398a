-- Two lists of records compared: the ground of each answer, and the answer on each ground.
use mathlib.Core.Path.{◌≡◌, refl, sym, ap, ◌∙◌}
use mathlib.Core.Bool.{Bool, true, false, cond}
use mathlib.Core.Logic.{◌≢◌}
use mathlib.Core.List.{List, [], ◌∷◌, ◌++◌}
use Prim.Native.Nat.{ℕ, ◌+◌}
use native.Mathlib.Omega.{arith}
use lib.ListN.{length}
use Rattle.log_codec.specs.declared.Record.{Record}
use Rattle.compare.specs.Compare.{Comparison, compare_records, equal, first_ends, notes_differ, record_differs, refused_first, refused_second}
use Rattle.compare.specs.Compare.{same_record, second_ends, settings_differ}
use Rattle.compare_guarantees.specs.ExactlyIf.{GoesOn, Unequal}
use Rattle.compare_guarantees.proofs.Same.{record-false, record-self, record-true, unequal}

-- the ground of an answer to lists whose first record has this number
abbrev pub At : (number : ℕ) (xs ys : List Record) → Comparison → Type 0
At number xs ys (refused_first n) = ⊥
At number xs ys (refused_second n) = ⊥
At number xs ys settings_differ = ⊥
At number xs ys notes_differ = ⊥
At number xs ys (record_differs n) = (m : ℕ) × ((n ≡ number + m) × Unequal xs ys m)
At number xs ys (first_ends shared remaining) = (m : ℕ) × ((shared ≡ number + m) × GoesOn xs ys m remaining)
At number xs ys (second_ends shared remaining) = (m : ℕ) × ((shared ≡ number + m) × GoesOn ys xs m remaining)
At number xs ys (equal n) = (xs ≡ ys) × (n ≡ number + length xs)

-- ── the ground of each answer ──

goes_on : (x y : Record) (shorter longer : List Record) (m n : ℕ) → x ≡ y → GoesOn shorter longer m n → GoesOn (x ∷ shorter) (y ∷ longer) (1 + m) n
goes_on x y shorter longer m n e g =
    record {
      next = g.next;
      others = g.others;
      split = rw (e, g.split);
      counted = omega (arith, g.counted);
      left = g.left;
    }

-- one equal record more before both
one_more : (x y : Record) (xs ys : List Record) (number : ℕ) → x ≡ y → (c : Comparison) → At (number + 1) xs ys c → At number (x ∷ xs) (y ∷ ys) c
one_more x y xs ys number e (refused_first n) g = g
one_more x y xs ys number e (refused_second n) g = g
one_more x y xs ys number e settings_differ g = g
one_more x y xs ys number e notes_differ g = g
one_more x y xs ys number e (record_differs n) (m, (p, u)) = (
  1 + m,
  (
    omega (arith, p),
    record {
      shared = x ∷ u.shared;
      one = u.one;
      other = u.other;
      after_one = u.after_one;
      after-other = u.after-other;
      in-first = ap (λ (l : List Record). x ∷ l) u.in-first;
      in-second = rw e (ap (λ (l : List Record). y ∷ l) u.in-second);
      counted = omega (arith, u.counted);
      unequal = u.unequal;
    },
  ),
)
one_more x y xs ys number e (first_ends s n) (m, (p, g)) = (1 + m, (omega (arith, p), goes_on x y xs ys m n e g))
one_more x y xs ys number e (second_ends s n) (m, (p, g)) = (1 + m, (omega (arith, p), goes_on y x ys xs m n (sym e) g))
one_more x y xs ys number e (equal n) (p, q) = (rw (e, p), omega (arith, q))

pub ground : (xs ys : List Record) (number : ℕ) → At number xs ys (compare_records number xs ys)
ground [] [] number = (refl, omega arith)
ground [] (y ∷ ys) number = (0, (omega arith, record { next = y; others = ys; split = refl; counted = refl; left = omega arith }))
ground (x ∷ xs) [] number = (0, (omega arith, record { next = x; others = xs; split = refl; counted = refl; left = omega arith }))
ground (x ∷ xs) (y ∷ ys) number = go (ground xs ys (number + 1)) (same_record x y) refl
  where
    go : At (number + 1) xs ys (compare_records (number + 1) xs ys) → (t : Bool) → same_record x y ≡ t →
        At number (x ∷ xs) (y ∷ ys) (cond t (compare_records (number + 1) xs ys) (record_differs number))
    go others true e = one_more x y xs ys number (record-true x y e) (compare_records (number + 1) xs ys) others
    go others false e = (
      0,
      (
        omega arith,
        record {
          shared = [];
          one = x;
          other = y;
          after_one = xs;
          after-other = ys;
          in-first = refl;
          in-second = refl;
          counted = refl;
          unequal = unequal x y e;
        },
      ),
    )

-- ── the answer on each ground ──

pub differ : (shared : List Record) (x y : Record) (xs ys : List Record) (number : ℕ) → x ≢ y →
    compare_records number (shared ++ x ∷ xs) (shared ++ y ∷ ys) ≡ record_differs (number + length shared)
differ [] x y xs ys number h = let e : number ≡ number + 0 = omega arith in rw (record-false x y h) (ap record_differs e)
differ (r ∷ shared) x y xs ys number h =
    let e : number + 1 + length shared ≡ number + length (r ∷ shared) = omega arith in
    rw (record-self r) (differ shared x y xs ys (number + 1) h ∙ ap record_differs e)

pub ends-first : (xs : List Record) (y : Record) (ys : List Record) (number : ℕ) →
    compare_records number xs (xs ++ y ∷ ys) ≡ first_ends (number + length xs) (1 + length ys)
ends-first [] y ys number =
    let e : number ≡ number + 0 = omega arith in
    let n : length (y ∷ ys) ≡ 1 + length ys = omega arith in
    ap (λ (k : ℕ). first_ends k (length (y ∷ ys))) e ∙ ap (first_ends (number + 0)) n
ends-first (r ∷ xs) y ys number =
    let e : number + 1 + length xs ≡ number + length (r ∷ xs) = omega arith in
    rw (record-self r) (ends-first xs y ys (number + 1) ∙ ap (λ (k : ℕ). first_ends k (1 + length ys)) e)

pub ends-second : (xs : List Record) (y : Record) (ys : List Record) (number : ℕ) →
    compare_records number (xs ++ y ∷ ys) xs ≡ second_ends (number + length xs) (1 + length ys)
ends-second [] y ys number =
    let e : number ≡ number + 0 = omega arith in
    let n : length (y ∷ ys) ≡ 1 + length ys = omega arith in
    ap (λ (k : ℕ). second_ends k (length (y ∷ ys))) e ∙ ap (second_ends (number + 0)) n
ends-second (r ∷ xs) y ys number =
    let e : number + 1 + length xs ≡ number + length (r ∷ xs) = omega arith in
    rw (record-self r) (ends-second xs y ys (number + 1) ∙ ap (λ (k : ℕ). second_ends k (1 + length ys)) e)

pub all-equal : (xs : List Record) (number : ℕ) → compare_records number xs xs ≡ equal (number + length xs)
all-equal [] number = let e : number ≡ number + 0 = omega arith in ap equal e
all-equal (r ∷ xs) number =
    let e : number + 1 + length xs ≡ number + length (r ∷ xs) = omega arith in
    rw (record-self r) (all-equal xs (number + 1) ∙ ap equal e)
