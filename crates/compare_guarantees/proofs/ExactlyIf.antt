-- Each answer of a comparison is given exactly on its ground.
use mathlib.Core.Path.{◌≡◌, refl, sym, ap, subst, ◌∙◌}
use mathlib.Core.Bool.{Bool, true, false, cond}
use mathlib.Core.Logic.{◌↔◌}
use mathlib.Core.List.{List}
use Prim.Native.Nat.{ℕ, ◌+◌}
use native.Mathlib.Omega.{arith}
use lib.ListN.{length}
use Rattle.log_codec.specs.declared.Header.{Header}
use Rattle.log_codec.specs.declared.Record.{Record}
use Rattle.call_log.specs.Answers.{Answer, given, refused}
use Rattle.call_log.specs.Whole.{Contents, read_whole}
use Rattle.compare.specs.Compare.{Comparison, compare, compare_contents, compare_records, equal, first_ends, notes_differ, record_differs}
use Rattle.compare.specs.Compare.{refused_first, refused_second, same, same_settings, second_ends, settings_differ, with_first}
use Rattle.compare_guarantees.specs.ExactlyIf.{Alike, ExactlyIf, GoesOn, Grounds, ReadGrounds, Unequal}
use Rattle.compare_guarantees.proofs.Records.{At, all-equal, differ, ends-first, ends-second, ground}
use Rattle.compare_guarantees.proofs.Same.{notes-unequal, same_false, same_self, same_true, settings-false, settings-self, settings-true}
use Rattle.compare_guarantees.proofs.Same.{settings-unequal}

module _ (a b : Contents) where
  -- ── the ground of each answer ──

  all_same : Alike a b → a.records ≡ b.records → a ≡ b
  all_same e f =
      ap (λ (h : Header). record { header = h; note = a.note; records = a.records }) e.0
      ∙ ap (λ (n : List ℕ). record { header = b.header; note = n; records = a.records }) e.1
      ∙ ap (λ (l : List Record). record { header = b.header; note = b.note; records = l }) f

  of-records : Alike a b → (c : Comparison) → At 0 a.records b.records c → Grounds a b c
  of-records e (refused_first n) g = g
  of-records e (refused_second n) g = g
  of-records e settings_differ g = absurd g
  of-records e notes_differ g = absurd g
  of-records e (record_differs n) (m, (p, u)) =
      let q : m ≡ n = omega (arith, p) in (e, subst (Unequal a.records b.records) q u)
  of-records e (first_ends s n) (m, (p, g)) =
      let q : m ≡ s = omega (arith, p) in (e, subst (λ (k : ℕ). GoesOn a.records b.records k n) q g)
  of-records e (second_ends s n) (m, (p, g)) =
      let q : m ≡ s = omega (arith, p) in (e, subst (λ (k : ℕ). GoesOn b.records a.records k n) q g)
  of-records e (equal n) (p, q) = (all_same e p, omega (arith, q))

  of-contents : (s t : Bool) → same_settings a.header b.header ≡ s → same a.note b.note ≡ t →
      Grounds a b (cond s (cond t (compare_records 0 a.records b.records) notes_differ) settings_differ)
  of-contents false t e f = settings-unequal a.header b.header e
  of-contents true false e f = (settings-true a.header b.header e, notes-unequal a.note b.note f)
  of-contents true true e f =
      of-records (settings-true a.header b.header e, same_true a.note b.note f) (compare_records 0 a.records b.records)
      (ground a.records b.records 0)

  -- ── the answer on each ground ──

  -- settings and notes are the same: the records decide
  decide : Alike a b → compare_contents a b ≡ compare_records 0 a.records b.records
  decide e =
      let s : same_settings a.header b.header ≡ true = ap (same_settings a.header) (sym e.0) ∙ settings-self a.header in
      let t : same a.note b.note ≡ true = ap (same a.note) (sym e.1) ∙ same_self a.note in
      rw (s, t)

  pub on-ground : (c : Comparison) → Grounds a b c → compare_contents a b ≡ c
  on-ground (refused_first n) g = absurd g
  on-ground (refused_second n) g = absurd g
  on-ground settings_differ g = rw (settings-false a.header b.header g)
  on-ground notes_differ (e, g) =
      let s : same_settings a.header b.header ≡ true = ap (same_settings a.header) (sym e) ∙ settings-self a.header in
      rw (s, same_false a.note b.note g)
  on-ground (record_differs n) (e, u) =
      let z : 0 + length u.shared ≡ n = omega (arith, u.counted) in
      decide e ∙ rw (u.in-first, u.in-second) (differ u.shared u.one u.other u.after_one u.after-other 0 u.unequal ∙ ap record_differs z)
  on-ground (first_ends s n) (e, g) =
      let z : 0 + length a.records ≡ s = omega (arith, g.counted) in
      let w : 1 + length g.others ≡ n = sym g.left in
      decide e
      ∙ ap (compare_records 0 a.records) g.split
      ∙ ends-first a.records g.next g.others 0
      ∙ ap (λ (k : ℕ). first_ends k (1 + length g.others)) z
      ∙ ap (first_ends s) w
  on-ground (second_ends s n) (e, g) =
      let z : 0 + length b.records ≡ s = omega (arith, g.counted) in
      let w : 1 + length g.others ≡ n = sym g.left in
      decide e
      ∙ ap (λ (l : List Record). compare_records 0 l b.records) g.split
      ∙ ends-second b.records g.next g.others 0
      ∙ ap (λ (k : ℕ). second_ends k (1 + length g.others)) z
      ∙ ap (second_ends s) w
  on-ground (equal n) (e, p) =
      let z : 0 + length a.records ≡ n = omega (arith, p) in
      decide (ap (λ (c : Contents). c.header) e, ap (λ (c : Contents). c.note) e)
      ∙ ap (compare_records 0 a.records) (ap (λ (c : Contents). c.records) (sym e))
      ∙ all-equal a.records 0
      ∙ ap equal z

-- ── any two logs ──

pub any : (first second : Answer Contents) (c : Comparison) → (with_first first second ≡ c) ↔ ReadGrounds first second c
any (refused n) second c = (λ e. sym e, λ e. sym e)
any (given a) (refused n) c = (λ e. sym e, λ e. sym e)
any (given a) (given b) c =
    (λ e. subst (Grounds a b) e (of-contents a b (same_settings a.header b.header) (same a.note b.note) refl refl), on-ground a b c)

pub exactly-if : ExactlyIf
unfolding compare
exactly-if first second c = any (read_whole first) (read_whole second) c
