-- Question 1 for obikuteru_arrival, from the same over states.
use mathlib.Core.Path.{◌≡◌, ap}
use mathlib.Core.Bool.{Bool, false}
use mathlib.Core.List.{List}
use mathlib.Core.Logic.{◌↔◌, inl, inr, ⊎_elim}
use Prim.Native.Nat.{ℕ}
use borrow.Author.Tests.{eq-eqb, eqb-true, not-false}
use lib.Dec.{eqb}
use Rattle.pie.specs.Verdicts.{place_of}
use Rattle.pie.specs.declared.Verdict.{Verdict}
use Rattle.pie.specs.declared.Verdict.TheVariants.{Enqueued, Marked, DroppedBytes, DroppedSlots, DroppedEarly}
use Rattle.pie.proofs.Counts.{place-lt}
use Rattle.pie_words.specs.Flags.{is_set}
use Rattle.refusals.specs.Codes.{code_of}
use Rattle.pie_guarantees.specs.WhichVerdict.{EarlyGrounds, Grounds, Limits}
use Rattle.ring.specs.Calls.{arrive}
use Rattle.ring.specs.declared.State.{State}
use Rattle.ring_words.specs.Lent.{code_given}
use Rattle.ring_words.specs.Words.{state_of}
use Rattle.ring_guarantees.specs.WhichVerdict as ring
use Rattle.ring_guarantees.proofs.WhichVerdict.{which-verdict}
use Rattle.ring_c_guarantees.specs.CWhichVerdict.{CDecided, CWhichVerdict, Inactive, Rule1, Rule2}
use Rattle.ring_c_guarantees.specs.MoreFields.{active_in}
use Rattle.ring_c_guarantees.proofs.PlacesApart.{same_place}
use Rattle.ring_c_guarantees.proofs.CAnswered.{arrival-answered}

-- ── another way to say 'inactive' ──

module _ (s : State) (size : ℕ) (ecn : Bool) (u : ℕ) (B : Type 0) (to : ring.Inactive s → B) (back : B → ring.Inactive s) where
  abbrev wanted : Limits
  wanted = record { Rule1 = ring.Rule1 s size; Rule2 = ring.Rule2 s; Inactive = B }

  abbrev Wanted : Verdict → Type 0
  Wanted w = Grounds wanted s.pie s.settings.target.0 s.backlog.bytes.0 ecn u w

  early-said : ring.EarlyGrounds s size u → EarlyGrounds wanted s.pie s.settings.target.0 s.backlog.bytes.0 u
  early-said (f1, f2, a, f3, f4, f5, f6) = (f1, f2, λ b. a (back b), f3, f4, f5, f6)

  early-back : EarlyGrounds wanted s.pie s.settings.target.0 s.backlog.bytes.0 u → ring.EarlyGrounds s size u
  early-back (f1, f2, a, f3, f4, f5, f6) = (f1, f2, λ i. a (to i), f3, f4, f5, f6)

  said : (w : Verdict) → ring.Grounds s size ecn u w → Wanted w
  said Enqueued (f1, f2, g) = (f1, f2, ⊎_elim (λ a. inl (to a)) inr g)
  said Marked (g, m) = (early-said g, m)
  said DroppedBytes g = g
  said DroppedSlots g = g
  said DroppedEarly (g, m) = (early-said g, m)

  said-back : (w : Verdict) → Wanted w → ring.Grounds s size ecn u w
  said-back Enqueued (f1, f2, g) = (f1, f2, ⊎_elim (λ b. inl (back b)) inr g)
  said-back Marked (g, m) = (early-back g, m)
  said-back DroppedBytes g = g
  said-back DroppedSlots g = g
  said-back DroppedEarly (g, m) = (early-back g, m)

unset : (word : ℕ) → is_set word ≡ false → word ≡ 0
unset word e = eqb-true word 0 (not-false (eqb word 0) e)

unset-back : (word : ℕ) → word ≡ 0 → is_set word ≡ false
unset-back word e = rw (eq-eqb word 0 e)

-- ── by the number ──

abbrev limits_in : (words : List ℕ) (size : ℕ) → Limits
limits_in w size = record { Rule1 = Rule1 w size; Rule2 = Rule2 w; Inactive = Inactive w }

-- what the words ask for a verdict
abbrev GroundsIn : (words : List ℕ) (size : ℕ) (ecn : Bool) (u : ℕ) → Verdict → Type 0
GroundsIn w size ecn u =
    let s = state_of w in Grounds (limits_in w size) s.pie s.settings.target.0 s.backlog.bytes.0 ecn u

by-words : (w handles sizes : List ℕ) (clock handle size : ℕ) (ecn : Bool) (u : ℕ) (v : Verdict) →
    code_given w (arrive handles sizes clock handle size ecn u) ≡ place_of v →
    ((k : Verdict) → (v ≡ k) ↔ GroundsIn w size ecn u k) →
    CDecided w size ecn u (code_given w (arrive handles sizes clock handle size ecn u))
unfolding state_of
by-words w handles sizes clock handle size ecn u v told exact =
    rw told
    (record {
      verdict = place-lt v;
      enqueued = by_place Enqueued;
      marked = by_place Marked;
      dropped-bytes = by_place DroppedBytes;
      dropped-slots = by_place DroppedSlots;
      dropped-early = by_place DroppedEarly;
    })
  where
    by_place : (k : Verdict) → (place_of v ≡ place_of k) ↔ GroundsIn w size ecn u k
    by_place k = (λ e. (exact k).0 (same_place v k e), λ g. ap place_of ((exact k).1 g))

pub c-which-verdict : CWhichVerdict
unfolding state_of
c-which-verdict w handles sizes clock handle size ecn u below =
    let s = state_of w in
    let a = arrival-answered s handles sizes clock handle size ecn u below in
    let over-states = which-verdict s handles sizes clock handle size ecn u a.0 a.1 in
    let to = unset (active_in w) in
    let back = unset-back (active_in w) in
    by-words w handles sizes clock handle size ecn u a.0 (ap code_of a.1)
    (λ k. (
      λ e. said s size ecn u (Inactive w) to back k ((over-states k).0 e),
      λ g. (over-states k).1 (said-back s size ecn u (Inactive w) to back k g),
    ))
