-- What the words of a call's answer need, and what a tick leaves.
use mathlib.Core.Path.{◌≡◌, refl}
use mathlib.Core.Bool.{Bool}
use mathlib.Core.List.{List}
use Prim.Native.Nat.{ℕ, ◌≤◌}
use native.Mathlib.Omega.{arith}
use lib.ListN.{length}
use Rattle.bursts.proofs.Answers.{first-low}
use Rattle.fq_state.specs.State.{State}
use Rattle.fq_words.proofs.Words.{length-flows}
use Rattle.fq_rules.specs.Answer.{Reply, flow_in, size_in}
use Rattle.fq_rules.specs.Arrival.{arrival}
use Rattle.fq_rules.specs.Departure.{departure, departure_refusals}
use Rattle.fq_rules.specs.Tick.{tick}
use Rattle.fq_words.specs.Codes.{code_of, deficits_after, order_after}
use Rattle.fq_words.specs.Words.{lent}
use Rattle.fq_guarantees.specs.Calls.{arrive, depart, update}
use Rattle.fq_guarantees.proofs.OneFlow.{served-low}
use Rattle.fq_guarantees.proofs.Replies.{by_number}
use Rattle.fq_guarantees.proofs.WhenAccepted.{departure-accepted}
use Rattle.fq_burst.specs.Burst.{answer_word}

-- ── the word of an answer that hands out nothing is its code ──

abbrev Plain : Reply → Type 0
Plain r = code_of r.answer ≡ answer_word r.answer

pub plain-arrival : (s : State) (handles sizes : List ℕ) (clock : ℕ) (key : List ℕ) (handle size : ℕ) (ecn : Bool) (u : ℕ) →
    Plain (arrival s handles sizes clock key size ecn u)
plain-arrival s handles sizes clock key handle size ecn u =
    by_number Plain s (arrive handles sizes clock key handle size ecn u) (λ n some given. omega arith) (λ none. omega arith)

pub plain-tick : (s : State) (clock : ℕ) → Plain (tick s clock)
plain-tick s clock = by_number Plain s (update clock) (λ n some given. omega arith) (λ none. omega arith)

-- ── the parts of a departure's answer are small ──

abbrev Small : Reply → Type 0
Small r = (code_of r.answer ≤ 255) × (flow_in r.answer ≤ 255) × (size_in r.answer ≤ 65535)

pub departure-small : (common order flows deficits handles sizes : List ℕ) (clock : ℕ) →
    Small (departure (lent common order deficits flows) handles sizes clock)
departure-small common order flows deficits handles sizes clock =
    let s = lent common order deficits flows in
    by_number Small s (depart handles sizes clock)
    (λ n some given. let low = first-low (departure_refusals s (length handles) sizes clock) refl in (omega (arith, low, given), omega arith, omega arith))
    (λ none.
    let a = departure-accepted s (length handles) sizes clock none in
    let low = served-low s (length handles) sizes clock (length-flows 64 flows) a in (omega arith, omega (arith, low), a.head.high))

-- ── a tick leaves lists and deficits ──

abbrev Stays : (order deficits : List ℕ) → Reply → Type 0
Stays order deficits r = (order_after r order ≡ order) × (deficits_after r deficits ≡ deficits)

pub tick-stays : (common order flows deficits : List ℕ) (clock : ℕ) → Stays order deficits (tick (lent common order deficits flows) clock)
tick-stays common order flows deficits clock =
    by_number (Stays order deficits) (lent common order deficits flows) (update clock) (λ n some given. (refl, refl)) (λ none. (refl, refl))
