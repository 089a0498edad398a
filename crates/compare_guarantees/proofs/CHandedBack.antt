-- The C entry's words tell the encoded rest, where it stands.
use mathlib.Core.Path.{◌≡◌, refl, ap, ◌∙◌}
use mathlib.Core.Logic.{◌≢◌}
use mathlib.Core.List.{List, [], ◌∷◌, ◌++◌}
use Prim.Native.Nat.{ℕ, ◌*◌}
use native.Mathlib.Omega.{arith}
use lib.ListN.{drop, length}
use Rattle.log_codec.specs.Fields.{AreBytes}
use Rattle.log_codec.specs.declared.Record.{Record}
use Rattle.call_log.specs.Answers.{given}
use Rattle.call_log.specs.Whole.{Contents, read_whole}
use Rattle.compare.specs.Codes.{words_of}
use Rattle.compare.specs.Compare.{Comparison, compare, equal, first_ends, notes_differ, record_differs, refused_first, refused_second}
use Rattle.compare.specs.Compare.{second_ends, settings_differ}
use Rattle.compare.specs.Remaining.{last_from}
use Rattle.compare_guarantees.specs.CHandedBack.{CHandedBack, Tells}
use Rattle.compare_guarantees.proofs.HandedBack.{answer, place, rest-bytes}

-- four words that are those of a log's last records
tells : (words : List ℕ) (whose : ℕ) (l : List ℕ) (c : Contents) (before : List Record) (next : Record) (others : List Record) →
    let rest = next ∷ others in
    words ≡ whose ∷ length before ∷ last_from l (length rest) ∷ 40 * length rest ∷ [] → AreBytes l → read_whole l ≡ given c →
    c.records ≡ before ++ rest → Tells words whose l c.note before rest
tells words whose l c before next others told bytes reads split =
    let rest = next ∷ others in
    record {
      told = told ∙ ap (λ (from : ℕ). whose ∷ length before ∷ from ∷ 40 * length rest ∷ []) (place l c bytes reads before rest split);
      stands = rest-bytes l c bytes reads before rest split;
    }

empty : (first second : List ℕ) (c : Comparison) → ((shared remaining : ℕ) → c ≢ first_ends shared remaining) →
    ((shared remaining : ℕ) → c ≢ second_ends shared remaining) → drop 2 (words_of first second c) ≡ 0 ∷ 0 ∷ []
empty first second (refused_first n) h k = refl
empty first second (refused_second n) h k = refl
empty first second settings_differ h k = refl
empty first second notes_differ h k = refl
empty first second (record_differs n) h k = refl
empty first second (first_ends s n) h k = absurd (h s n refl)
empty first second (second_ends s n) h k = absurd (k s n refl)
empty first second (equal n) h k = refl

pub c-handed-back : CHandedBack
c-handed-back first second = record {
  of-second = λ a b next others bytes e f alike split.
      rw alike.1
      (tells (words_of first second (compare first second)) 2 second b a.records next others
      (ap (words_of first second)
      (answer first second a b (first_ends (length a.records) (length (next ∷ others))) e f
      (alike, record { next = next; others = others; split = split; counted = refl; left = omega arith })))
      bytes f split);
  of-first = λ a b next others bytes e f alike split.
      rw (← alike.1)
      (tells (words_of first second (compare first second)) 1 first a b.records next others
      (ap (words_of first second)
      (answer first second a b (second_ends (length b.records) (length (next ∷ others))) e f
      (alike, record { next = next; others = others; split = split; counted = refl; left = omega arith })))
      bytes e split);
  otherwise = λ h k. empty first second (compare first second) h k;
}
