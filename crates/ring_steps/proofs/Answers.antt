-- The parts of an answer's word.
use mathlib.Core.Path.{◌≡◌, refl}
use mathlib.Core.Bool.{Bool}
use mathlib.Core.List.{List}
use Prim.Native.Nat.{ℕ, zero, suc, ◌≤◌}
use native.Mathlib.Omega.{arith}
use lib.ListN.{length}
use Rattle.pie.proofs.Counts.{place-lt}
use Rattle.ring.specs.declared.State.{State}
use Rattle.ring.specs.Answer.{Reply, unless_refused}
use Rattle.refusals.specs.Answer.{size_in}
use Rattle.ring.specs.Activity.{begun}
use Rattle.ring.specs.Arrival.{arrival, arrival_refusal, arrival_refusals, verdict_of}
use Rattle.ring.specs.Departure.{departure, departure_refusal, departure_refusals, head_of}
use Rattle.ring.specs.Tick.{tick, tick_refusal, tick_refusals}
use Rattle.ring.proofs.WhenAccepted.{departure-accepted}
use Rattle.refusals.specs.Codes.{code_of}
use Rattle.ring_guarantees.proofs.Replies.{arrival_of, departure_of, tick_of}
use Rattle.bursts.specs.Answers.{answer_word}
use Rattle.bursts.proofs.Answers.{first-low}

-- ── the word of an answer that hands out nothing is its code ──

abbrev Plain : Reply → Type 0
Plain r = code_of r.answer ≡ answer_word r.answer

plain-unless : (n : ℕ) (s : State) (r : Reply) → Plain r → Plain (unless_refused n s r)
plain-unless zero s r p = p
plain-unless (suc n) s r p = omega arith

pub plain-arrival : (s : State) (handles sizes : List ℕ) (clock size : ℕ) (ecn : Bool) (u : ℕ) → Plain (arrival s handles sizes clock size ecn u)
unfolding arrival
plain-arrival s handles sizes clock size ecn u =
    plain-unless (arrival_refusal s (length handles) (length sizes) clock size) s (arrival_of s clock size ecn u) (omega arith)

pub plain-tick : (s : State) (clock : ℕ) → Plain (tick s clock)
unfolding tick
plain-tick s clock = plain-unless (tick_refusal s clock) s (tick_of s clock) (omega arith)

-- ── the parts of a departure's answer are small ──

number-low : (s : State) (h z clock head : ℕ) → departure_refusal s h z clock head ≤ 9
unfolding departure_refusal
number-low s h z clock head = first-low (departure_refusals s h z clock head) refl

pub departure-small : (s : State) (handles sizes : List ℕ) (clock : ℕ) →
    let a = (departure s handles sizes clock).answer in (code_of a ≤ 65535) × (size_in a ≤ 65535)
unfolding departure
departure-small s handles sizes clock = go (departure_refusal s (length handles) (length sizes) clock (head_of s sizes)) refl
  where
    go : (n : ℕ) → departure_refusal s (length handles) (length sizes) clock (head_of s sizes) ≡ n →
        let a = (unless_refused n s (departure_of s handles sizes clock)).answer in (code_of a ≤ 65535) × (size_in a ≤ 65535)
    go zero e = (omega arith, (departure-accepted s (length handles) (length sizes) clock (head_of s sizes) e).head-high)
    go (suc n) e = (omega (arith, e, number-low s (length handles) (length sizes) clock (head_of s sizes)), omega arith)

-- ── and so are the others' codes ──

low-unless : (n : ℕ) (s : State) (r : Reply) → n ≤ 9 → code_of r.answer ≤ 65535 → code_of (unless_refused n s r).answer ≤ 65535
low-unless zero s r h p = p
low-unless (suc n) s r h p = omega arith

pub arrival-low : (s : State) (handles sizes : List ℕ) (clock size : ℕ) (ecn : Bool) (u : ℕ) →
    code_of (arrival s handles sizes clock size ecn u).answer ≤ 65535
unfolding arrival arrival_refusal
arrival-low s handles sizes clock size ecn u =
    let v = verdict_of (begun s) size ecn u in
    low-unless (arrival_refusal s (length handles) (length sizes) clock size) s (arrival_of s clock size ecn u)
    (first-low (arrival_refusals s (length handles) (length sizes) clock size) refl) (omega (arith, place-lt v))

pub tick-low : (s : State) (clock : ℕ) → code_of (tick s clock).answer ≤ 65535
unfolding tick tick_refusal
tick-low s clock = low-unless (tick_refusal s clock) s (tick_of s clock) (first-low (tick_refusals s clock) refl) (omega arith)
