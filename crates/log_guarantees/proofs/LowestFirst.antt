-- Where several refusals apply, the lowest is given.
use mathlib.Core.Path.{◌≡◌, refl, sym, ap, subst, ◌∙◌}
use mathlib.Core.Bool.{Bool, true, false, cond, not, ◌&&◌}
use mathlib.Core.Logic.{◌≢◌}
use mathlib.Core.List.{List, Memᴰ}
use Prim.Native.Nat.{ℕ, zero, suc, ◌+◌}
use native.Mathlib.Omega.{arith}
use lib.Dec.{leb}
use lib.ListN.{length}
use Rattle.refusals.specs.Rows.{Ascending, first_refusal}
use Rattle.refusals.proofs.Ordered.{lowest-given}
use Rattle.call_log.specs.Answers.{Answer, given, refused}
use Rattle.call_log.specs.Faults.{faulty, header_refused}
use Rattle.call_log.specs.Layout.{count_in, header_in, record_in, records_in}
use Rattle.call_log.specs.Reader.{note_of, read_at, settings_of, trailer_refused}
use Rattle.call_log.specs.Whole.{any_faulty, read_whole}
use Rattle.call_log.specs.Writer.{Reply, add, add_refusal, add_refusals, added, begin, begin_refusal, begin_refusals, begun, unless_refused, zero_writer}
use Rattle.call_log.specs.declared.Writer.{Writer}
use Rattle.log_guarantees.specs.LowestFirst.{InOrder, LowestFirst, open_rows, read_rows, whole_rows}

-- rows that go up, and a call that is refused by their first number
pub in_order : (rows : List (ℕ × Bool)) → Ascending 0 rows → (Refuses : ℕ → Type 0) →
    ((n : ℕ) → Refuses n → (n ≢ 0) × (first_refusal rows ≡ n)) → (first_refusal rows ≢ 0 → Refuses (first_refusal rows)) → InOrder rows Refuses
in_order rows up Refuses to from =
    let g = lowest-given rows up in
    record {
      lowest = λ n e.
          let t = to n e in (
            subst (λ (k : ℕ). Memᴰ (k, true) rows) t.1 (g.applies (λ z. t.0 (sym t.1 ∙ z))),
            λ m a. let f = g.lowest m a in omega (arith, f.1, t.1),
          );
      refuses = λ m a. (first_refusal rows, from (g.lowest m a).0);
    }

-- the same, of another call that is refused by the same numbers
pub order-of : (rows : List (ℕ × Bool)) (Refuses Refuses' : ℕ → Type 0) → ((n : ℕ) → Refuses n → Refuses' n) →
    ((n : ℕ) → Refuses' n → Refuses n) → InOrder rows Refuses → InOrder rows Refuses'
order-of rows Refuses Refuses' to from g = record {
  lowest = λ n e. g.lowest n (from n e);
  refuses = λ m a. let f = g.refuses m a in (f.0, to f.0 f.1);
}

-- ── the writer ──

pub reply-number : (k : ℕ) (w : Writer) (bytes : List ℕ) (a : Reply) → a.refusal ≡ 0 → (unless_refused k w bytes a).refusal ≡ k
reply-number zero w bytes a e = e
reply-number (suc k) w bytes a e = refl

writer-order : (rows : List (ℕ × Bool)) → Ascending 0 rows → (k : ℕ) → k ≡ first_refusal rows → InOrder rows (λ n. (n ≢ 0) × (k ≡ n))
writer-order rows up k e = in_order rows up (λ n. (n ≢ 0) × (k ≡ n)) (λ n f. (f.0, sym e ∙ f.1)) (λ h. (h, e))

-- ── the reader ──

-- the number of a refusal, none of which is 0; 0 where there is none
data Numbered {A : Type 0} : Answer A → ℕ → Type 0 where
  some : (n : ℕ) → n ≢ 0 → Numbered (refused n) n
  none : (x : A) → Numbered (given x) 0

number-in : {A : Type 0} → Answer A → ℕ
number-in (refused n) = suc n
number-in (given x) = 0

to_number : {A : Type 0} (a : Answer A) (k : ℕ) → Numbered a k → (n : ℕ) → a ≡ refused n → (n ≢ 0) × (k ≡ n)
unfolding number-in
to_number a k (some m h) n e =
    let s : suc m ≡ suc n = ap number-in e in let same : m ≡ n = omega arith in (λ z. h (same ∙ z), same)
to_number a k (none x) n e = let z : ◌≡◌ {A = ℕ} 0 (suc n) = ap number-in e in absurd (omega arith)

from-number : {A : Type 0} (a : Answer A) (k : ℕ) → Numbered a k → k ≢ 0 → a ≡ refused k
from-number a k (some m h) f = refl
from-number a k (none x) f = absurd (f refl)

reader-order : {A : Type 0} (a : Answer A) (rows : List (ℕ × Bool)) → Ascending 0 rows → Numbered a (first_refusal rows) →
    InOrder rows (λ n. a ≡ refused n)
reader-order a rows up h =
    in_order rows up (λ n. a ≡ refused n) (to_number a (first_refusal rows) h) (from-number a (first_refusal rows) h)

eleven : {A : Type 0} (t h : Bool) (a : Answer A) (k : ℕ) → Numbered a k →
    Numbered (cond t (refused 11) (cond h (refused 12) a)) (cond t 11 (cond h 12 k))
eleven true h a k f = some 11 (λ z. omega (arith, z))
eleven false true a k f = some 12 (λ z. omega (arith, z))
eleven false false a k f = f

thirteen : {A : Type 0} (t : Bool) (x : A) → Numbered (cond t (refused 13) (given x)) (cond t 13 0)
thirteen true x = some 13 (λ z. omega (arith, z))
thirteen false x = none x

at_place : {A : Type 0} (ended t : Bool) (end x : A) →
    Numbered (cond ended (given end) (cond t (refused 13) (given x))) (cond (not ended && t) 13 0)
at_place true t end x = none end
at_place false t end x = thirteen t x

module _ (l : List ℕ) where
  settings-order : InOrder (open_rows l) (λ n. settings_of l ≡ refused n)
  unfolding settings_of
  settings-order =
      reader-order (settings_of l) (open_rows l) (omega arith) (eleven (trailer_refused l) (header_refused (header_in l)) _ 0 (none _))

  note-order : InOrder (open_rows l) (λ n. note_of l ≡ refused n)
  unfolding note_of
  note-order = reader-order (note_of l) (open_rows l) (omega arith) (eleven (trailer_refused l) (header_refused (header_in l)) _ 0 (none _))

  read-order : (p : ℕ) → InOrder (read_rows l p) (λ n. read_at l p ≡ refused n)
  unfolding read_at
  read-order p =
      reader-order (read_at l p) (read_rows l p) (omega arith)
      (eleven (trailer_refused l) (header_refused (header_in l)) _ _ (at_place (leb (count_in l) p) (faulty (record_in l p)) _ _))

  whole-order : InOrder (whole_rows l) (λ n. read_whole l ≡ refused n)
  unfolding read_whole
  whole-order =
      reader-order (read_whole l) (whole_rows l) (omega arith)
      (eleven (trailer_refused l) (header_refused (header_in l)) _ _ (thirteen (any_faulty (records_in l)) _))

pub lowest-first : LowestFirst
unfolding begin begin_refusal add add_refusal
lowest-first = record {
  begins = λ h note bytes.
      writer-order (begin_refusals h (length note) (length bytes)) (omega arith) (begin h note bytes).refusal
      (reply-number (begin_refusal h (length note) (length bytes)) zero_writer bytes
      (record { refusal = 0; writer = record { offset = 32 + length note; count = 0 }; bytes = begun h note bytes }) refl);
  adds = λ w r bytes.
      writer-order (add_refusals w r (length bytes)) (omega arith) (add w r bytes).refusal
      (reply-number (add_refusal w r (length bytes)) w bytes
      (record { refusal = 0; writer = record { offset = w.offset; count = w.count + 1 }; bytes = added w r bytes }) refl);
  settings = settings-order;
  note = note-order;
  reads = read-order;
  whole = whole-order;
}
