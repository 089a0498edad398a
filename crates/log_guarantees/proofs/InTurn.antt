-- A log that reads whole reads in turn.
use mathlib.Core.Path.{◌≡◌, refl, ap, ◌∙◌, sym}
use mathlib.Core.Bool.{false}
use mathlib.Core.List.{List, ◌∷◌, ◌++◌}
use Prim.Native.Nat.{ℕ, zero, suc, ◌+◌, ◌*◌, ◌<◌, ◌≤◌}
use native.Mathlib.Omega.{arith}
use lib.ListN.{length}
use borrow.Author.Tests.{le-leb, lt-leb}
use Rattle.laws.proofs.Tests.{or-neither}
use Rattle.log_codec.specs.Records.{decoded}
use Rattle.call_log.specs.Answers.{Answer, Turn, end, given, handed}
use Rattle.call_log.specs.Faults.{faulty, header_refused}
use Rattle.call_log.specs.Layout.{count_in, header_in, note_in, offset_in, record_in, records_from, records_in}
use Rattle.call_log.specs.Reader.{note_of, read_at, settings_of, trailer_refused}
use Rattle.call_log.specs.Whole.{any_faulty}
use Rattle.call_log.proofs.Contents.{is_whole}
use Rattle.log_guarantees.specs.InTurn.{InTurn, Reads, answers, each_handed, ends}

module _ (l : List ℕ) (trailer : trailer_refused l ≡ false) (settings : header_refused (header_in l) ≡ false) where
  at-end : (p : ℕ) → count_in l ≤ p → read_at l p ≡ given end
  unfolding read_at
  at-end p h = simp (trailer, settings, le-leb (count_in l) p h)

  at-record : (p : ℕ) → p < count_in l → faulty (record_in l p) ≡ false → read_at l p ≡ given (handed (record_in l p) (p + 1))
  unfolding read_at
  at-record p h f = simp (trailer, settings, lt-leb (count_in l) p h, f)

  -- the end, again and again
  no_more : (more p : ℕ) → count_in l ≤ p → answers more l p ≡ ends more
  no_more zero p h = refl
  no_more (suc more) p h = rw (at-end p h) (ap (λ (t : List (Answer Turn)). given end ∷ t) (no_more more p h))

  -- the k records from place p on, and then the end
  from_place : (more k p at : ℕ) → k + p ≡ count_in l → at ≡ offset_in l + 40 * p → any_faulty (records_from k l at) ≡ false →
      answers (length (records_from k l at) + more) l p ≡ each_handed (records_from k l at) p ++ ends more
  from_place more zero p at e a f = let z : 0 + more ≡ more = omega arith in rw z (no_more more p (omega arith))
  from_place more (suc k) p at e a f =
      let g = or-neither (faulty (decoded l at)) (any_faulty (records_from k l (at + 40))) f in
      let r : record_in l p ≡ decoded l at = ap (decoded l) (sym a) in
      let here : read_at l p ≡ given (handed (decoded l at) (p + 1)) =
      at-record p (omega arith) (ap faulty r ∙ g.0) ∙ ap (λ q. given (handed q (p + 1))) r in
      let s : suc (length (records_from k l (at + 40))) + more ≡ suc (length (records_from k l (at + 40)) + more) = omega arith in
      rw (s, here) (ap (λ (t : List (Answer Turn)). given (handed (decoded l at) (p + 1)) ∷ t) (from_place more k (p + 1) (at + 40) (omega arith) (omega arith) g.1))

  reads-settings : settings_of l ≡ given (header_in l)
  unfolding settings_of
  reads-settings = simp (trailer, settings)

  reads-note : note_of l ≡ given (note_in l)
  unfolding note_of
  reads-note = simp (trailer, settings)

  reads : any_faulty (records_in l) ≡ false → Reads l (record { header = header_in l; note = note_in l; records = records_in l })
  reads f = record {
    settings = reads-settings;
    noted = reads-note;
    in_order = λ more. from_place more (count_in l) 0 (offset_in l) (omega arith) (omega arith) f;
  }

pub in-turn : InTurn
in-turn l c e = let w = is_whole l c e in rw w.contents at (reads l w.trailer w.settings w.faultless)
