-- Reading whole: record after record, and what is left when none is faulty.
use mathlib.Core.Path.{◌≡◌, ap, ap₂, ◌∙◌, sym}
use mathlib.Core.Bool.{Bool, true, false}
use mathlib.Core.List.{List}
use Prim.Native.Nat.{ℕ, suc, ◌+◌}
use Rattle.log_codec.specs.Records.{decoded}
use Rattle.log_codec.specs.declared.Record.{Record}
use Rattle.call_log.specs.Answers.{given, refused}
use Rattle.call_log.specs.Faults.{faulty, header_refused}
use Rattle.call_log.specs.Layout.{count_in, header_in, offset_in, records_from}
use Rattle.call_log.specs.Reader.{settings_of, trailer_refused}
use Rattle.call_log.specs.Whole.{any_faulty, read_whole, shape_in}
use Rattle.call_log.proofs.Facts.{sound}
use Rattle.call_log.proofs.Opened.{refuses}
use Rattle.call_log.proofs.Records.{length-note, length-records}

-- the record of one round, of those that are left: `left` is one more than `next`
module _ (l : List ℕ) (at next left : ℕ) (h : left ≡ suc next) {b : Bool} (e : any_faulty (records_from left l at) ≡ b) {r : Record} (p : r ≡ decoded l at) {t : Bool} (q : t ≡ faulty r) where
  first : faulty (decoded l at) ≡ t
  first = ap faulty (sym p) ∙ sym q

  -- it is faulty
  pub some-faulty : t ≡ true → true ≡ b
  some-faulty k = let f = first ∙ k in rw (h, f) at e

  -- it is not: the others are to be tested
  pub none_yet : t ≡ false → {at' : ℕ} → at' ≡ at + 40 → any_faulty (records_from next l at') ≡ b
  none_yet k g = let f = first ∙ k in rw g (rw (h, f) at e)

-- settings that are refused refuse the whole log
pub refused-shape : (l : List ℕ) {n : ℕ} → refused n ≡ settings_of l → refused n ≡ shape_in (read_whole l)
unfolding read_whole
refused-shape l e = ap shape_in (refuses l _ e)

pub whole-shape : (l : List ℕ) → trailer_refused l ≡ false → header_refused (header_in l) ≡ false → {o n : ℕ} → o ≡ offset_in l → n ≡ count_in l →
    any_faulty (records_from n l o) ≡ false → given (o, n) ≡ shape_in (read_whole l)
unfolding read_whole
whole-shape l t h eo en f =
    let g : any_faulty (records_from (count_in l) l (offset_in l)) ≡ false = rw (eo, en) at f in
    simp (t, h, g)
    (ap₂ (λ (a b : ℕ). given (a, b)) (eo ∙ sym (length-note l (sound l t))) (en ∙ sym (length-records (count_in l) l (offset_in l))))
