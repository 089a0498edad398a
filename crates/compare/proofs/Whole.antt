-- A log that was read whole: its contents stand where offset and count say.
use mathlib.Core.Path.{◌≡◌, refl, ap, sym, ◌∙◌}
use mathlib.Core.Bool.{Bool, true, false, cond}
use mathlib.Core.List.{List}
use Prim.Native.Nat.{ℕ, ◌+◌, ◌*◌, ◌≤◌}
use native.Mathlib.Omega.{arith}
use lib.ListN.{length}
use Rattle.call_log.specs.Answers.{Answer, given, refused}
use Rattle.call_log.specs.Faults.{header_refused}
use Rattle.call_log.specs.Layout.{count_in, header_in, note_in, offset_in, records_in}
use Rattle.call_log.specs.Reader.{trailer_refused}
use Rattle.call_log.specs.Whole.{Contents, any_faulty, read_whole, shape_in}
use Rattle.call_log.proofs.Facts.{sound}
use Rattle.call_log.proofs.Records.{length-note, length-records}
use Rattle.compare.specs.Values.{contents_at}

pub record ReadWhole (log : List ℕ) (offset count : ℕ) : Type 0 where
  pub read : read_whole log ≡ given (contents_at log offset count)
  pub low : 32 ≤ offset
  pub whole : length log ≡ offset + 40 * count + 16

-- offset and count of an answer; none of a refusal
abbrev offset-in : Answer (ℕ × ℕ) → ℕ
offset-in (refused n) = 0
offset-in (given (o, n)) = 1 + o

abbrev count-in : Answer (ℕ × ℕ) → ℕ
count-in (refused n) = 0
count-in (given (o, n)) = n

none-refused : (t h f : Bool) (c : Contents) (p : ℕ × ℕ) →
    shape_in (cond t (refused 11) (cond h (refused 12) (cond f (refused 13) (given c)))) ≡ given p → (t ≡ false) × (h ≡ false) × (f ≡ false)
none-refused true h f c (o, n) e = let z : ◌≡◌ {A = ℕ} 0 (1 + o) = ap offset-in e in absurd (omega arith)
none-refused false true f c (o, n) e = let z : ◌≡◌ {A = ℕ} 0 (1 + o) = ap offset-in e in absurd (omega arith)
none-refused false false true c (o, n) e = let z : ◌≡◌ {A = ℕ} 0 (1 + o) = ap offset-in e in absurd (omega arith)
none-refused false false false c p e = (refl, refl, refl)

module _ (l : List ℕ) (o n : ℕ) (e : shape_in (read_whole l) ≡ given (o, n)) where
  tests : (trailer_refused l ≡ false) × (header_refused (header_in l) ≡ false) × (any_faulty (records_in l) ≡ false)
  unfolding read_whole
  tests = none-refused (trailer_refused l) (header_refused (header_in l)) (any_faulty (records_in l)) _ (o, n) e

  found : read_whole l ≡ given (record { header = header_in l; note = note_in l; records = records_in l })
  unfolding read_whole
  found = rw (tests.0, tests.1, tests.2) refl

  shape : ◌≡◌ {A = Answer (ℕ × ℕ)} (given (32 + length (note_in l), length (records_in l))) (given (o, n))
  shape = rw found at e

  offset-is : o ≡ offset_in l
  offset-is =
      let s = sound l tests.0 in
      let p : 1 + (32 + length (note_in l)) ≡ 1 + o = ap offset-in shape in
      omega (arith, p, length-note l s)

  count-is : n ≡ count_in l
  count-is = sym (ap count-in shape) ∙ length-records (count_in l) l (offset_in l)

  pub read_whole_lem : ReadWhole l o n
  read_whole_lem =
      let s = sound l tests.0 in
      record {
        read = rw (offset-is, count-is) found;
        low = rw offset-is s.low;
        whole = rw (offset-is, count-is) s.whole;
      }

-- offset and count are refused with the same number as the log
number-in : {A : Type 0} → Answer A → ℕ
number-in (refused n) = n
number-in (given a) = 0

shape-refused : (a : Answer Contents) (n : ℕ) → shape_in a ≡ refused n → a ≡ refused n
unfolding number-in
shape-refused (refused m) n e = ap refused (ap number-in e)
shape-refused (given c) n e = let z : ◌≡◌ {A = ℕ} (1 + (32 + length c.note)) 0 = ap offset-in e in absurd (omega arith)

pub read-refused : (l : List ℕ) (n : ℕ) → shape_in (read_whole l) ≡ refused n → read_whole l ≡ refused n
read-refused l n e = shape-refused (read_whole l) n e
