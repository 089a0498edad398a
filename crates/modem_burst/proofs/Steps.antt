-- One call of a burst, from what its entry gives.
use mathlib.Core.Path.{◌≡◌, refl, ◌∙◌}
use mathlib.Core.List.{List}
use Prim.Native.Nat.{ℕ, zero, suc, ◌≤◌}
use native.Mathlib.Omega.{arith}
use lib.ListN.{length}
use Rattle.laws.proofs.Choice.{either}
use Rattle.bursts.proofs.Answers.{first-low}
use Rattle.refusals.specs.Answer.{Answer, refused, size_in}
use Rattle.modem_flow.specs.Answer.{Reply, unless_refused}
use Rattle.modem_flow.specs.Arrival as flow-arrival
use Rattle.modem_flow.specs.Arrival.{stored}
use Rattle.modem_flow.specs.Departure as flow-departure
use Rattle.modem_flow.specs.Departure.{head_of}
use Rattle.modem_flow.specs.Tick as flow-tick
use Rattle.modem_flow.specs.declared.State.{State}
use Rattle.modem_flow.proofs.WhenAccepted.{departure-accepted}
use Rattle.modem.specs.Answer.{ModemReply}
use Rattle.modem.specs.Calls.{arrival, departure, flow_refused, for_flow, tick}
use Rattle.modem.specs.Counts.{counts_after, row_of}
use Rattle.modem_guarantees.proofs.Replies.{arrival_of, departure_of, tick_of}
use Rattle.refusals.specs.Codes.{code_of}
use Rattle.modem_words.specs.Words.{state_of, state_words}
use Rattle.modem.specs.Asked.{ask_arrival, ask_departure, ask_tick}
use Rattle.modem_burst.specs.Calls.{Call, asked}
use Rattle.bursts.specs.Answers.{answer_word}
use Rattle.modem_words.specs.Lent.{Lent, lent}
use Rattle.modem_burst.specs.Burst.{after, answer_to}

-- ── a reply with refusal 10 ahead of it ──

at-flow : (P : Answer → Type 0) (flow : ℕ) (s : State) (counts : List (List ℕ)) (r : Reply) → P (refused 10) → P r.answer →
    P (for_flow flow s counts r).answer
unfolding for_flow
at-flow P flow s counts r h k =
    either (λ (m : ModemReply). P m.answer) (flow_refused flow) (record { answer = refused 10; state = s; counts = counts })
    (record { answer = r.answer; state = r.state; counts = counts_after counts flow r.answer }) h k

-- ── the word of an answer that hands out nothing is its code ──

abbrev Plain : Answer → Type 0
Plain a = code_of a ≡ answer_word a

plain-unless : (n : ℕ) (s : State) (r : Reply) → Plain r.answer → Plain (unless_refused n s r).answer
plain-unless zero s r p = p
plain-unless (suc n) s r p = omega arith

plain-arrival : (s : State) (counts : List (List ℕ)) (flow : ℕ) (handles sizes : List ℕ) (clock size u : ℕ) →
    Plain (arrival s counts flow handles sizes clock size u).answer
unfolding arrival flow-arrival.arrival
plain-arrival s counts flow handles sizes clock size u =
    at-flow Plain flow s counts _ (omega arith)
    (plain-unless (flow-arrival.arrival_refusal s (row_of counts flow) (length handles) (length sizes) clock size) s (arrival_of s clock size u) (omega arith))

plain-tick : (s : State) (counts : List (List ℕ)) (flow clock credits : ℕ) → Plain (tick s counts flow clock credits).answer
unfolding tick flow-tick.tick
plain-tick s counts flow clock credits =
    at-flow Plain flow s counts _ (omega arith)
    (plain-unless (flow-tick.tick_refusal s (row_of counts flow) clock) s (tick_of s clock credits) (omega arith))

-- ── the parts of a departure's answer are small ──

number-low : (s : State) (row : List ℕ) (h z clock head : ℕ) → flow-departure.departure_refusal s row h z clock head ≤ 9
unfolding flow-departure.departure_refusal
number-low s row h z clock head = first-low (flow-departure.departure_refusals s row h z clock head) refl

abbrev Small : Answer → Type 0
Small a = (code_of a ≤ 65535) × (size_in a ≤ 65535)

pub departure-small : (s : State) (counts : List (List ℕ)) (flow : ℕ) (handles sizes : List ℕ) (clock : ℕ) →
    Small (departure s counts flow handles sizes clock).answer
unfolding departure flow-departure.departure
departure-small s counts flow handles sizes clock = at-flow Small flow s counts _ (omega arith, omega arith) (go number refl)
  where
    row : List ℕ
    row = row_of counts flow

    number : ℕ
    number = flow-departure.departure_refusal s row (length handles) (length sizes) clock (head_of s sizes)

    go : (n : ℕ) → number ≡ n → Small (unless_refused n s (departure_of s handles sizes clock)).answer
    go zero e = (omega arith, (departure-accepted s row (length handles) (length sizes) clock (head_of s sizes) e).head-high)
    go (suc n) e = (omega (arith, e, number-low s row (length handles) (length sizes) clock (head_of s sizes)), omega arith)

-- ── each kind of call ──

module _ (flow : ℕ) (w : List ℕ) (counts : List (List ℕ)) (handles sizes : List ℕ) where
  abbrev given : Lent
  given = lent w counts handles sizes

  -- a call's word, and what it leaves
  abbrev pub Does : Call → (word : ℕ) → Lent → Type 0
  Does c word next = (word ≡ answer_word (answer_to flow given c)) × (next ≡ after flow given c)

  abbrev arrives : (clock size u : ℕ) → ModemReply
  arrives clock size u = arrival (state_of w) counts flow handles sizes clock size u

  pub arrival-does : (clock handle size u word : ℕ) (w' : List ℕ) (counts' : List (List ℕ)) (handles' sizes' : List ℕ) →
      let a = arrives clock size u in
      (word ≡ code_of a.answer)
      × (w' ≡ state_words a.state)
      × (counts' ≡ a.counts)
      × (handles' ≡ stored (state_of w) a.answer handles handle)
      × (sizes' ≡ stored (state_of w) a.answer sizes size) →
      Does (asked (ask_arrival clock handle size u)) word (lent w' counts' handles' sizes')
  arrival-does clock handle size u word w' counts' handles' sizes' (e, f, g, h, i) =
      (e ∙ plain-arrival (state_of w) counts flow handles sizes clock size u, rw (f, g, h, i))

  pub departure-does : (clock word : ℕ) (w' : List ℕ) →
      let a = departure (state_of w) counts flow handles sizes clock in
      (word ≡ answer_word a.answer) × (w' ≡ state_words a.state) × (counts ≡ a.counts) →
      Does (asked (ask_departure clock)) word (lent w' counts handles sizes)
  departure-does clock word w' (e, f, g) = (e, rw (f, ← g))

  pub tick-does : (clock credits word : ℕ) (w' : List ℕ) →
      let a = tick (state_of w) counts flow clock credits in
      (word ≡ code_of a.answer) × (w' ≡ state_words a.state) × (counts ≡ a.counts) →
      Does (asked (ask_tick clock credits)) word (lent w' counts handles sizes)
  tick-does clock credits word w' (e, f, g) = (e ∙ plain-tick (state_of w) counts flow clock credits, rw (f, ← g))
