-- A log that 13 refuses, read in turn.
use mathlib.Core.Path.{◌≡◌, refl, ap, ◌∙◌, sym}
use mathlib.Core.Bool.{Bool, true, false, cond, false≢true}
use mathlib.Core.List.{List, [], ◌∷◌, ◌++◌}
use Prim.Native.Nat.{ℕ, zero, suc, ◌+◌, ◌*◌, ◌<◌}
use native.Mathlib.Omega.{arith}
use lib.ListN.{drop, get_or, length}
use borrow.Author.Tests.{lt-leb}
use Rattle.laws.proofs.Tests.{or-neither}
use Rattle.log_codec.specs.Records.{decoded}
use Rattle.log_codec.specs.declared.Record.{Record}
use Rattle.call_log.specs.Answers.{Answer, Turn, given, handed, refused}
use Rattle.call_log.specs.Faults.{faulty, header_refused}
use Rattle.call_log.specs.Layout.{count_in, header_in, offset_in, record_in, records_from, records_in}
use Rattle.call_log.specs.Reader.{read_at, trailer_refused}
use Rattle.call_log.specs.Whole.{Contents, any_faulty, read_whole}
use Rattle.log_guarantees.specs.FaultAt.{FaultAt, faults}
use Rattle.log_guarantees.specs.InTurn.{answers, each_handed}
use Rattle.log_guarantees.proofs.ReadsAt.{reads-note, reads-record, reads-settings}

module _ (l : List ℕ) (trailer : trailer_refused l ≡ false) (settings : header_refused (header_in l) ≡ false) where
  at-fault : (p : ℕ) → p < count_in l → faulty (record_in l p) ≡ true → read_at l p ≡ refused 13
  unfolding read_at
  at-fault p h f = simp (trailer, settings, lt-leb (count_in l) p h, f)

  -- 13, again and again
  stays : (more p : ℕ) → p < count_in l → faulty (record_in l p) ≡ true → answers more l p ≡ faults more
  stays zero p h f = refl
  stays (suc more) p h f = rw (at-fault p h f) (ap (λ (t : List (Answer Turn)). refused 13 ∷ t) (stays more p h f))

  -- from place p on, where k records are left
  from_place : (before : List Record) (it : Record) (rest : List Record) (more k p at : ℕ) → records_from k l at ≡ before ++ it ∷ rest →
      k + p ≡ count_in l → at ≡ offset_in l + 40 * p → any_faulty before ≡ false → faulty it ≡ true →
      answers (length before + more) l p ≡ each_handed before p ++ faults more
  from_place [] it rest more zero p at e n a none f =
      let z : ◌≡◌ {A = ℕ} 0 (suc (length rest)) = ap length e in absurd (omega arith)
  from_place [] it rest more (suc k) p at e n a none f =
      let z : 0 + more ≡ more = omega arith in
      let r : record_in l p ≡ it = ap (decoded l) (sym a) ∙ ap (λ (rs : List Record). get_or rs 0 it) e in
      rw z (stays more p (omega arith) (ap faulty r ∙ f))
  from_place (b ∷ before) it rest more zero p at e n a none f =
      let z : ◌≡◌ {A = ℕ} 0 (suc (length (before ++ it ∷ rest))) = ap length e in absurd (omega arith)
  from_place (b ∷ before) it rest more (suc k) p at e n a none f =
      let g = or-neither (faulty b) (any_faulty before) none in
      let r : record_in l p ≡ b = ap (decoded l) (sym a) ∙ ap (λ (rs : List Record). get_or rs 0 b) e in
      let here : read_at l p ≡ given (handed b (p + 1)) =
      reads-record l trailer settings p (omega arith) (ap faulty r ∙ g.0) ∙ ap (λ q. given (handed q (p + 1))) r in
      let s : suc (length before) + more ≡ suc (length before + more) = omega arith in
      rw (s, here)
      (ap (λ (t : List (Answer Turn)). given (handed b (p + 1)) ∷ t)
      (from_place before it rest more k (p + 1) (at + 40) (ap (drop 1) e) (omega arith) (omega arith) g.1 f))

-- the first that is faulty
record First (rs : List Record) : Type 0 where
  before : List Record
  it : Record
  rest : List Record
  split : rs ≡ before ++ it ∷ rest
  faultless : any_faulty before ≡ false
  fault : faulty it ≡ true

first : (rs : List Record) → any_faulty rs ≡ true → First rs
first [] e = absurd (false≢true e)
first (r ∷ rs) e = go (λ f. first rs f) (faulty r) refl
  where
    go : (any_faulty rs ≡ true → First rs) → (t : Bool) → faulty r ≡ t → First (r ∷ rs)
    go others true f = record { before = []; it = r; rest = rs; split = refl; faultless = refl; fault = f }
    go others false f =
        let n = others (rw f at e) in
        record {
          before = r ∷ n.before;
          it = n.it;
          rest = n.rest;
          split = ap (λ (l : List Record). r ∷ l) n.split;
          faultless = rw f n.faultless;
          fault = n.fault;
        }

-- what a log that 13 refuses has
number-in : Answer Contents → ℕ
number-in (refused n) = n
number-in (given c) = 0

tests : (t h f : Bool) (c : Contents) → cond t (refused 11) (cond h (refused 12) (cond f (refused 13) (given c))) ≡ refused 13 →
    (t ≡ false) × (h ≡ false) × (f ≡ true)
unfolding number-in
tests true h f c e = let z : ◌≡◌ {A = ℕ} 11 13 = ap number-in e in absurd (omega arith)
tests false true f c e = let z : ◌≡◌ {A = ℕ} 12 13 = ap number-in e in absurd (omega arith)
tests false false true c e = (refl, refl, refl)
tests false false false c e = let z : ◌≡◌ {A = ℕ} 0 13 = ap number-in e in absurd (omega arith)

in-log : (l : List ℕ) → read_whole l ≡ refused 13 → (trailer_refused l ≡ false) × (header_refused (header_in l) ≡ false) × (any_faulty (records_in l) ≡ true)
unfolding read_whole
in-log l e = tests (trailer_refused l) (header_refused (header_in l)) (any_faulty (records_in l)) _ e

pub fault-at : FaultAt
fault-at l e =
    let t = in-log l e in
    let n = first (records_in l) t.2 in
    record {
      before = n.before;
      it = n.it;
      rest = n.rest;
      split = n.split;
      faultless = n.faultless;
      fault = n.fault;
      settings = reads-settings l t.0 t.1;
      noted = reads-note l t.0 t.1;
      in_order = λ more.
          from_place l t.0 t.1 n.before n.it n.rest more (count_in l) 0 (offset_in l) n.split (omega arith) (omega arith) n.faultless n.fault;
    }
