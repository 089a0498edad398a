-- The records that remain stand in the longer log.
use mathlib.Core.Path.{◌≡◌, refl, ap}
use mathlib.Core.Bool.{Bool, true, false, cond}
use mathlib.Core.List.{List, [], ◌∷◌}
use Prim.Native.Nat.{ℕ, ◌+◌, ◌*◌, ◌≤◌}
use native.Mathlib.Omega.{arith}
use lib.ListN.{length}
use denote.Ref.{Bor}
use Rattle.log_codec.specs.declared.Record.{Record}
use Rattle.call_log.specs.Answers.{Answer, given, refused}
use Rattle.call_log.specs.Whole.{Contents, read_whole, shape_in}
use Rattle.compare.specs.Compare.{Comparison, compare, compare_contents, compare_records, equal, first_ends, notes_differ}
use Rattle.compare.specs.Compare.{record_differs, refused_first, refused_second, same, same_record, same_settings, second_ends}
use Rattle.compare.specs.Compare.{settings_differ, with_first}
use Rattle.compare.specs.Remaining.{part_for, remaining_of}
use Rattle.compare.specs.Values.{comparison_of}
use Rattle.call_log.specs.Reader.{within}
use Rattle.compare.specs.declared.Compared.{Compared}
use Rattle.compare.specs.declared.Compared.TheVariants.{FirstEnds, SecondEnds}
use Rattle.compare.proofs.Whole.{read_whole_lem}

-- one more than what remains of the first log, and of the second; 0 where neither is a beginning of the other
abbrev of_first : Comparison → ℕ
of_first (refused_first n) = 0
of_first (refused_second n) = 0
of_first settings_differ = 0
of_first notes_differ = 0
of_first (record_differs n) = 0
of_first (first_ends k n) = 0
of_first (second_ends k n) = 1 + n
of_first (equal n) = 0

abbrev of_second : Comparison → ℕ
of_second (refused_first n) = 0
of_second (refused_second n) = 0
of_second settings_differ = 0
of_second notes_differ = 0
of_second (record_differs n) = 0
of_second (first_ends k n) = 1 + n
of_second (second_ends k n) = 0
of_second (equal n) = 0

-- no more than the log has
records-within : (n : ℕ) (a b : List Record) →
    (of_first (compare_records n a b) ≤ 1 + length a) × (of_second (compare_records n a b) ≤ 1 + length b)
records-within n [] [] = (omega arith, omega arith)
records-within n [] (y ∷ ys) = (omega arith, omega arith)
records-within n (x ∷ xs) [] = (omega arith, omega arith)
records-within n (x ∷ xs) (y ∷ ys) = go (records-within (n + 1) xs ys) (same_record x y)
  where
    go : (of_first (compare_records (n + 1) xs ys) ≤ 1 + length xs) × (of_second (compare_records (n + 1) xs ys) ≤ 1 + length ys) → (t : Bool) →
        (of_first (cond t (compare_records (n + 1) xs ys) (record_differs n)) ≤ 1 + length (x ∷ xs))
        × (of_second (cond t (compare_records (n + 1) xs ys) (record_differs n)) ≤ 1 + length (y ∷ ys))
    go next true = (omega (arith, next.0), omega (arith, next.1))
    go next false = (omega arith, omega arith)

contents-within : (a b : Contents) →
    (of_first (compare_contents a b) ≤ 1 + length a.records) × (of_second (compare_contents a b) ≤ 1 + length b.records)
contents-within a b = go (same_settings a.header b.header) (same a.note b.note)
  where
    go : (s t : Bool) →
        (of_first (cond s (cond t (compare_records 0 a.records b.records) notes_differ) settings_differ) ≤ 1 + length a.records)
        × (of_second (cond s (cond t (compare_records 0 a.records b.records) notes_differ) settings_differ) ≤ 1 + length b.records)
    go true true = records-within 0 a.records b.records
    go true false = (omega arith, omega arith)
    go false t = (omega arith, omega arith)

-- so many records of 40 bytes, and the trailer
in-log : (l : List ℕ) (c : Contents) → read_whole l ≡ given c → 40 * length c.records + 16 ≤ length l
in-log l c e =
    let w = read_whole_lem l (32 + length c.note) (length c.records) (ap shape_in e) in omega (arith, w.whole)

module _ (a b : List ℕ) where
  first_read : (r q : Answer Contents) → read_whole a ≡ r → read_whole b ≡ q → {k n : ℕ} → with_first r q ≡ second_ends k n → 40 * n + 16 ≤ length a
  first_read (refused m) q e f {k} {n} g = let z : ◌≡◌ {A = ℕ} 0 (1 + n) = ap of_first g in absurd (omega arith)
  first_read (given x) (refused m) e f {k} {n} g = let z : ◌≡◌ {A = ℕ} 0 (1 + n) = ap of_first g in absurd (omega arith)
  first_read (given x) (given y) e f {k} {n} g =
      let z : of_first (compare_contents x y) ≡ 1 + n = ap of_first g in
      let w = contents-within x y in omega (arith, z, w.0, in-log a x e)

  second-read : (r q : Answer Contents) → read_whole a ≡ r → read_whole b ≡ q → {k n : ℕ} → with_first r q ≡ first_ends k n → 40 * n + 16 ≤ length b
  second-read (refused m) q e f {k} {n} g = let z : ◌≡◌ {A = ℕ} 0 (1 + n) = ap of_second g in absurd (omega arith)
  second-read (given x) (refused m) e f {k} {n} g = let z : ◌≡◌ {A = ℕ} 0 (1 + n) = ap of_second g in absurd (omega arith)
  second-read (given x) (given y) e f {k} {n} g =
      let z : of_second (compare_contents x y) ≡ 1 + n = ap of_second g in
      let w = contents-within x y in omega (arith, z, w.1, in-log b y f)

  pub first_fits : {k n : ℕ} → compare a b ≡ second_ends k n → 40 * n + 16 ≤ length a
  unfolding compare
  first_fits g = first_read (read_whole a) (read_whole b) refl refl g

  pub second_fits : {k n : ℕ} → compare a b ≡ first_ends k n → 40 * n + 16 ≤ length b
  unfolding compare
  second_fits g = second-read (read_whole a) (read_whole b) refl refl g

-- the part that a comparison asks for
pub part-of : (first second : Bor (List ℕ)) {a : Comparison} → a ≡ compare first.now second.now → part_for first second a ≡ remaining_of first second
unfolding remaining_of
part-of first second e = ap (λ c. part_for first second c) e

-- neither log is a proper beginning of the other
pub neither : (first second : Bor (List ℕ)) (v : Compared) → ((k n : ℕ) → v ≡ FirstEnds k n → ⊥) → ((k n : ℕ) → v ≡ SecondEnds k n → ⊥) →
    comparison_of v ≡ compare first.now second.now → within first 0 [] ≡ remaining_of first second
neither first second (FirstEnds k n) f s e = absurd (f k n refl)
neither first second (SecondEnds k n) f s e = absurd (s k n refl)
neither first second _ f s e = part-of first second e
