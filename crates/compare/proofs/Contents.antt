-- Which of settings, notes and records decides.
use mathlib.Core.Path.{◌≡◌, refl, sym, ◌∙◌}
use mathlib.Core.Bool.{Bool, true, false}
use mathlib.Core.List.{List}
use Prim.Native.Nat.{ℕ, ◌-◌, ◌≤◌}
use native.Mathlib.Omega.{arith}
use lib.ListN.{drop, length, length-drop, length-take, take}
use Rattle.log_codec.specs.Headers.{decoded_header}
use Rattle.log_codec.specs.declared.Header.{Header}
use Rattle.call_log.specs.Layout.{records_from}
use Rattle.compare.specs.Compare.{Comparison, compare_contents, compare_records, notes_differ, same, same_settings, settings_differ}
use Rattle.compare.specs.Values.{contents_at}
use Rattle.compare.proofs.Same.{same-length}

-- the note of a log with this offset
abbrev pub note : (log : List ℕ) (offset : ℕ) → List ℕ
note l offset = take (offset - 32) (drop 32 l)

note-length : (l : List ℕ) (offset : ℕ) → 32 ≤ offset → offset ≤ length l → length (note l offset) ≡ offset - 32
note-length l offset h k = simp (length-take, length-drop) (omega arith)

module _ (first second : List ℕ) (offset count start others : ℕ) {a b : Header} {t : Bool}
    (first_read : a ≡ decoded_header first 0) (second-read : b ≡ decoded_header second 0) (tested : t ≡ same_settings a b) where
  settings : same_settings (decoded_header first 0) (decoded_header second 0) ≡ t
  settings = rw (← first_read, ← second-read) (sym tested)

  pub settings-differ : t ≡ false → settings_differ ≡ compare_contents (contents_at first offset count) (contents_at second start others)
  settings-differ e = rw (settings ∙ e) refl

  module _ (alike : t ≡ true) {u : Bool} (noted : u ≡ same (note first offset) (note second start)) where
    pub notes-differ : u ≡ false → notes_differ ≡ compare_contents (contents_at first offset count) (contents_at second start others)
    notes-differ e = rw (settings ∙ alike, sym noted ∙ e) refl

    pub records-decide : u ≡ true → offset ≡ start → {c : Comparison} →
        c ≡ compare_records 0 (records_from count first offset) (records_from others second offset) →
        c ≡ compare_contents (contents_at first offset count) (contents_at second start others)
    records-decide e p r = rw (settings ∙ alike, sym noted ∙ e, ← p) r

-- notes that are the same end at one place
pub placed : (first second : List ℕ) (offset start : ℕ) → 32 ≤ offset → offset ≤ length first → 32 ≤ start → start ≤ length second →
    same (note first offset) (note second start) ≡ true → offset ≡ start
placed first second offset start h k l m e =
    omega (arith, same-length (note first offset) (note second start) e, note-length first offset h k, note-length second start l m)
