-- The part that is handed back is the encoded rest, where it stands.
use mathlib.Core.Path.{◌≡◌, refl, sym, ap, ◌∙◌}
use mathlib.Core.Logic.{◌≢◌}
use mathlib.Core.List.{List, [], ◌∷◌, ◌++◌}
use Prim.Native.Nat.{ℕ, zero, suc, ◌+◌, ◌*◌, ◌≤◌}
use native.Mathlib.Omega.{arith}
use lib.ListN.{drop, length, length-append, take}
use denote.Ref.{Bor}
use Rattle.log_codec.specs.Fields.{AreBytes}
use Rattle.log_codec.specs.declared.Record.{Record}
use Rattle.call_log.specs.Answers.{given}
use Rattle.call_log.specs.Layout.{count_in, note_in, offset_in, records_from, records_in}
use Rattle.call_log.specs.Reader.{within}
use Rattle.call_log.specs.Whole.{Contents, read_whole}
use Rattle.call_log.proofs.Contents.{is_whole}
use Rattle.call_log.proofs.Facts.{sound}
use Rattle.call_log.proofs.Records.{length-note, length-records}
use Rattle.log_guarantees.specs.AlwaysWhole.{encoded_all}
use Rattle.log_guarantees.proofs.OneForm.{read-encoded}
use Rattle.compare.specs.Compare.{Comparison, compare, equal, first_ends, notes_differ, record_differs, refused_first, refused_second}
use Rattle.compare.specs.Compare.{second_ends, settings_differ}
use Rattle.compare.specs.Remaining.{last_from, last_of, part_for, remaining_of}
use Rattle.compare_guarantees.specs.ExactlyIf.{ReadGrounds}
use Rattle.compare_guarantees.specs.HandedBack.{HandedBack, after}
use Rattle.compare_guarantees.proofs.ExactlyIf.{exactly-if}

-- ── records and their bytes ──

-- of records that were read, those after some
rest_read : (before rest : List Record) (n : ℕ) (l : List ℕ) (at : ℕ) → records_from n l at ≡ before ++ rest →
    records_from (length rest) l (at + 40 * length before) ≡ rest
rest_read [] rest n l at e =
    let m : n ≡ length rest = sym (length-records n l at) ∙ ap length e in
    let p : at + 0 ≡ at = omega arith in
    rw (p, ← m) e
rest_read (r ∷ before) rest zero l at e = let z : ◌≡◌ {A = ℕ} 0 (suc (length (before ++ rest))) = ap length e in absurd (omega arith)
rest_read (r ∷ before) rest (suc n) l at e =
    let p : at + 40 + 40 * length before ≡ at + 40 * length (r ∷ before) = omega arith in
    rw (← p) (rest_read before rest n l (at + 40) (ap (drop 1) e))

module _ (l : List ℕ) (c : Contents) (bytes : AreBytes l) (reads : read_whole l ≡ given c)
    (before rest : List Record) (split : c.records ≡ before ++ rest) where
  -- where the rest stands
  pub place : last_from l (length rest) ≡ 32 + length c.note + 40 * length before
  place =
      let w = is_whole l c reads in
      let s = sound l w.trailer in
      let n : length (note_in l) ≡ length c.note = ap (λ (x : Contents). length x.note) w.contents in
      let k : length (records_in l) ≡ length before + length rest =
      ap (λ (x : Contents). length x.records) w.contents ∙ ap length split ∙ length-append before rest in
      omega (arith, s.whole, length-note l s, n, k, length-records (count_in l) l (offset_in l))

  -- and its bytes
  pub rest-bytes : take (40 * length rest) (drop (32 + length c.note + 40 * length before) l) ≡ encoded_all rest
  rest-bytes =
      let w = is_whole l c reads in
      let s = sound l w.trailer in
      let o = 32 + length c.note in
      let at : offset_in l ≡ o = sym (length-note l s) ∙ ap (λ (x : Contents). 32 + length x.note) w.contents in
      let all : records_from (count_in l) l o ≡ before ++ rest =
      ap (λ (k : ℕ). records_from (count_in l) l k) (sym at) ∙ ap (λ (x : Contents). x.records) w.contents ∙ split in
      let k : length before + length rest ≡ count_in l = sym (length-append before rest) ∙ ap length (sym all) ∙ length-records (count_in l) l o in
      let p = o + 40 * length before in
      let room : p + 40 * length rest ≤ length l = omega (arith, s.whole, at, k) in
      sym (read-encoded (length rest) l p bytes room) ∙ ap encoded_all (rest_read before rest (count_in l) l o all)

last-is : (log : Bor (List ℕ)) (c : Contents) → AreBytes log.now → read_whole log.now ≡ given c →
    (before rest : List Record) → c.records ≡ before ++ rest → last_of log (length rest) ≡ after log c.note before rest
last-is log c bytes reads before rest split =
    let l = log.now in
    ap (λ (q : ℕ). within log q (take (40 * length rest) (drop q l))) (place l c bytes reads before rest split)
    ∙ ap (within log (32 + length c.note + 40 * length before)) (rest-bytes l c bytes reads before rest split)

-- ── the claim ──

empty : (first second : Bor (List ℕ)) (c : Comparison) → ((shared remaining : ℕ) → c ≢ first_ends shared remaining) →
    ((shared remaining : ℕ) → c ≢ second_ends shared remaining) → part_for first second c ≡ within first 0 []
empty first second (refused_first n) h k = refl
empty first second (refused_second n) h k = refl
empty first second settings_differ h k = refl
empty first second notes_differ h k = refl
empty first second (record_differs n) h k = refl
empty first second (first_ends s n) h k = absurd (h s n refl)
empty first second (second_ends s n) h k = absurd (k s n refl)
empty first second (equal n) h k = refl

-- the answer, from what was read
pub answer : (first second : List ℕ) (a b : Contents) (c : Comparison) → read_whole first ≡ given a → read_whole second ≡ given b →
    ReadGrounds (given a) (given b) c → compare first second ≡ c
answer first second a b c e f g = (exactly-if first second c).1 (rw (e, f) g)

pub handed-back : HandedBack
unfolding remaining_of
handed-back first second = record {
  of-second = λ a b next others bytes e f alike split.
      ap (part_for first second)
      (answer first.now second.now a b (first_ends (length a.records) (length (next ∷ others))) e f
      (alike, record { next = next; others = others; split = split; counted = refl; left = omega arith }))
      ∙ last-is second b bytes f a.records (next ∷ others) split
      ∙ ap (λ (n : List ℕ). after second n a.records (next ∷ others)) (sym alike.1);
  of-first = λ a b next others bytes e f alike split.
      ap (part_for first second)
      (answer first.now second.now a b (second_ends (length b.records) (length (next ∷ others))) e f
      (alike, record { next = next; others = others; split = split; counted = refl; left = omega arith }))
      ∙ last-is first a bytes e b.records (next ∷ others) split
      ∙ ap (λ (n : List ℕ). after first n b.records (next ∷ others)) alike.1;
  otherwise = λ h k. empty first second (compare first.now second.now) h k;
}
