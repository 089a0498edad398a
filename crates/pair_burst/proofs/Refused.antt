-- Calls that are refused for records, tables or counts leave everything as it was.
use mathlib.Core.Path.{◌≡◌, refl, sym, ◌∙◌}
use mathlib.Core.Bool.{Bool, true, false, false≢true}
use mathlib.Core.List.{List}
use Prim.Native.Nat.{ℕ, ◌+◌, ◌≤◌}
use native.Mathlib.Omega.{arith}
use lib.Dec.{eqb, ltb}
use lib.ListN.{get_or, length}
use borrow.Author.Tests.{eq-eqb, eqb-true, le-ltb, lt-ltb, ltb-false, ltb-true}
use Rattle.bursts.specs.Numbers.{clock_at}
use Rattle.pair_rules.specs.WellFormed.{well_formed}
use Rattle.pair_rules.specs.declared.Pair.{Pair}
use Rattle.pair_rules.specs.Arrival.{arrival}
use Rattle.pair_rules.specs.Departure.{departure}
use Rattle.pair_rules.specs.Refusals.{tables_refused}
use Rattle.pair_rules.specs.Tick.{tick}
use Rattle.pair_words.specs.Words.{pair_of, shared_of, state_of, which_of}
use Rattle.pair_steps.proofs.Replies.{arrival-malformed, arrival-tables, departure-malformed, departure-tables, refused_by, tick-malformed}
use Rattle.pair_burst.proofs.Steps.{Asked, arrival-step, departure-step, tick-step}

pub either_way : {P : Type 0} (b : Bool) → (b ≡ true → P) → (b ≡ false → P) → P
either_way true h k = h refl
either_way false h k = k refl

module _ (second : Bool) (s o t handles sizes calls : List ℕ) (at kind : ℕ) where
  abbrev p : Pair
  p = pair_of second s o t

  -- answered by the refusal of this number, and nothing changed
  abbrev pub Left : (number : ℕ) → Type 0
  Left number = Asked second s o t handles sizes calls at kind (100 + number) s o handles sizes

  pub arrival-left : (number clock : ℕ) → clock ≡ clock_at calls at → ltb kind 2 ≡ true →
      arrival p (which_of second) handles sizes clock (get_or calls (at + 3) 0) (eqb kind 1) (get_or calls (at + 4) 0) ≡ refused_by number p →
      Left number
  arrival-left number clock c k e =
      arrival-step second s o t handles sizes calls at kind clock c k (100 + number) s o handles sizes
      (rw e refl) (rw e refl) (rw e refl) (rw e refl) (rw e refl)

  departure-left : (number : ℕ) → ltb kind 2 ≡ false → eqb kind 2 ≡ true →
      departure p (which_of second) handles sizes (clock_at calls at) ≡ refused_by number p → Left number
  departure-left number k l e =
      departure-step second s o t handles sizes calls at kind (clock_at calls at) refl k l (100 + number) s o sizes
      (rw e (omega arith)) (rw e refl) (rw e refl) (rw e refl)

  tick-left : (number : ℕ) → ltb kind 2 ≡ false → eqb kind 2 ≡ false → tick p (which_of second) (clock_at calls at) ≡ refused_by number p →
      Left number
  tick-left number k l e =
      tick-step second s o t handles sizes calls at kind (clock_at calls at) refl k l (100 + number) o (rw e refl) (rw e refl)

  pub malformed-left : well_formed p ≡ false → Left 2
  malformed-left e =
      either_way (ltb kind 2)
      (λ k. arrival-left 2 (clock_at calls at) refl k (arrival-malformed p (which_of second) handles sizes (clock_at calls at) _ _ _ e))
      (λ k. either_way (eqb kind 2)
      (λ l. departure-left 2 k l (departure-malformed p (which_of second) handles sizes (clock_at calls at) e))
      (λ l. tick-left 2 k l (tick-malformed p (which_of second) (clock_at calls at) e)))

  pub tables-left : ltb 2 kind ≡ false → well_formed p ≡ true → tables_refused (shared_of s) (length handles) (length sizes) ≡ true → Left 3
  tables-left low f e =
      either_way (ltb kind 2)
      (λ k. arrival-left 3 (clock_at calls at) refl k
      (arrival-tables (which_of second) (shared_of s) (state_of o) (state_of t) handles sizes (clock_at calls at) _ _ _ f e))
      (λ k.
      let a : kind ≤ 2 = ltb-false 2 kind low in
      let b : 2 ≤ kind = ltb-false kind 2 k in
      departure-left 3 k (eq-eqb kind 2 (omega arith))
      (departure-tables (which_of second) (shared_of s) (state_of o) (state_of t) handles sizes (clock_at calls at) f e))

-- ── kinds ──

pub departure-kind : (kind : ℕ) → eqb kind 2 ≡ true → (ltb kind 2 ≡ false) × (ltb kind 3 ≡ true)
departure-kind kind e = let f : kind ≡ 2 = eqb-true kind 2 e in rw f (refl, refl)

pub arrival-kind : (kind : ℕ) → ltb kind 2 ≡ true → ltb kind 3 ≡ true
arrival-kind kind e = let f = ltb-true kind 2 e in lt-ltb kind 3 (omega arith)

-- a tick
pub tick-kind : (kind : ℕ) → ltb 2 kind ≡ true → (ltb kind 3 ≡ false) × (ltb kind 2 ≡ false)
tick-kind kind e = let f = ltb-true 2 kind e in (le-ltb kind 3 (omega arith), le-ltb kind 2 (omega arith))

pub never : {P : Type 0} {b : Bool} → b ≡ false → b ≡ true → P
never e f = absurd (false≢true (sym e ∙ f))
