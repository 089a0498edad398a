-- Records compared one after the other: what one turn does.
use mathlib.Core.Path.{◌≡◌, refl, ap, sym, ◌∙◌}
use mathlib.Core.Bool.{Bool, true, false, cond}
use mathlib.Core.List.{List, [], ◌∷◌}
use Prim.Native.Nat.{ℕ, zero, suc, ◌+◌, ◌-◌, ◌<◌, ◌≤◌}
use native.Mathlib.Omega.{arith}
use lib.ListN.{length}
use Rattle.log_codec.specs.Records.{decoded}
use Rattle.log_codec.specs.declared.Record.{Record}
use Rattle.call_log.specs.Layout.{records_from}
use Rattle.compare.specs.Compare.{Comparison, compare_records, equal, first_ends, record_differs, same_record, second_ends}

-- where one more is left, it stands first
pub one_more : (count number : ℕ) (log : List ℕ) (at : ℕ) → number < count →
    records_from (count - number) log at ≡ decoded log at ∷ records_from (count - (number + 1)) log (at + 40)
one_more count number log at h = ap (λ n. records_from n log at) less
  where
    less : count - number ≡ suc (count - (number + 1))
    less = omega arith

pub none_left : (count number : ℕ) (log : List ℕ) (at : ℕ) → count ≤ number → records_from (count - number) log at ≡ []
none_left count number log at h = ap (λ n. records_from n log at) none
  where
    none : ◌≡◌ {A = ℕ} (count - number) 0
    none = omega arith

-- the comparison from a number on: its records stand at `at` in both logs
abbrev pub from : (first second : List ℕ) (count others number at : ℕ) → Comparison
from first second count others number at =
    compare_records number (records_from (count - number) first at) (records_from (others - number) second at)

pub turn : (first second : List ℕ) (count others number at : ℕ) → number < count → number < others →
    from first second count others number at
    ≡ cond (same_record (decoded first at) (decoded second at)) (from first second count others (number + 1) (at + 40)) (record_differs number)
turn first second count others number at h k = rw (one_more count number first at h, one_more others number second at k) refl

-- so many records were asked for
pub records-length : (n : ℕ) (log : List ℕ) (at : ℕ) → length (records_from n log at) ≡ n
records-length zero log at = refl
records-length (suc n) log at = ap suc (records-length n log (at + 40))

pub first_ends_lem : (first second : List ℕ) (count others number at : ℕ) → count ≤ number → number < others →
    from first second count others number at ≡ first_ends number (others - number)
first_ends_lem first second count others number at h k =
    rw (none_left count number first at h, one_more others number second at k) (ap (first_ends number) left)
  where
    left : suc (length (records_from (others - (number + 1)) second (at + 40))) ≡ others - number
    left = rw (records-length (others - (number + 1)) second (at + 40)) (omega arith)

pub second-ends : (first second : List ℕ) (count others number at : ℕ) → number < count → others ≤ number →
    from first second count others number at ≡ second_ends number (count - number)
second-ends first second count others number at h k =
    rw (one_more count number first at h, none_left others number second at k) (ap (second_ends number) left)
  where
    left : suc (length (records_from (count - (number + 1)) first (at + 40))) ≡ count - number
    left = rw (records-length (count - (number + 1)) first (at + 40)) (omega arith)

pub both_end : (first second : List ℕ) (count others number at : ℕ) → count ≤ number → others ≤ number →
    from first second count others number at ≡ equal number
both_end first second count others number at h k = rw (none_left count number first at h, none_left others number second at k) refl

choose-first : (t : Bool) (x y : Comparison) → t ≡ true → cond t x y ≡ x
choose-first t x y e = rw e refl

choose-second : (t : Bool) (x y : Comparison) → t ≡ false → cond t x y ≡ y
choose-second t x y e = rw e refl

module _ (first second : List ℕ) (count others number at : ℕ) (h : number < count) (k : number < others) {a b : Record} {t : Bool}
    (first_read : a ≡ decoded first at) (second-read : b ≡ decoded second at) (tested : t ≡ same_record a b) where
  known : same_record (decoded first at) (decoded second at) ≡ t
  known = rw (← first_read, ← second-read) (sym tested)

  pub turn-same : t ≡ true → from first second count others number at ≡ from first second count others (number + 1) (at + 40)
  turn-same e = turn first second count others number at h k ∙ choose-first _ _ _ (known ∙ e)

  pub turn-differs : t ≡ false → from first second count others number at ≡ record_differs number
  turn-differs e = turn first second count others number at h k ∙ choose-second _ _ _ (known ∙ e)
