-- The steps of a flow that is one of sixteen, from what the flow gives with its row.
use mathlib.Core.Path.{◌≡◌, refl}
use mathlib.Core.List.{List}
use Prim.Native.Nat.{ℕ, zero, suc, ◌+◌, ◌≤◌}
use lib.Dec.{eqb}
use lib.ListN.{get_or, length}
use Rattle.modem_flow.specs.Answer.{Reply, unless_refused}
use Rattle.modem_flow.specs.Arrival as flow-arrival
use Rattle.modem_flow.specs.Arrival.{stored}
use Rattle.modem_flow.specs.Departure as flow-departure
use Rattle.modem_flow.specs.Departure.{head_of}
use Rattle.modem_flow.specs.Tick as flow-tick
use Rattle.modem_flow.specs.declared.State.{State}
use Rattle.modem.specs.Asked.{ask_arrival, ask_departure, ask_tick}
use Rattle.modem.specs.Calls.{arrival, departure, tick}
use Rattle.modem.specs.Counts.{counts_after, row_of}
use Rattle.modem_guarantees.proofs.Replies.{departure_of, tick_of}
use Rattle.refusals.specs.Codes.{code_of}
use Rattle.modem_words.specs.Words.{state_of, state_words}
use Rattle.laws.proofs.Choice.{at-cond}
use Rattle.bursts.specs.Answers.{answer_word}
use Rattle.modem_words.specs.Lent.{lent}
use Rattle.modem_burst.specs.Calls.{Call, asked, call_at}
use Rattle.modem_burst.proofs.Kept.{within}
use Rattle.modem_burst.proofs.Steps.{Does, arrival-does, departure-does, tick-does}

-- ── neither a departure nor a tick counts ──

abbrev Uncounted : (counts : List (List ℕ)) (flow : ℕ) → Reply → Type 0
Uncounted counts flow r = counts ≡ counts_after counts flow r.answer

uncounted-unless : (counts : List (List ℕ)) (flow n : ℕ) (s : State) (r : Reply) → Uncounted counts flow r → Uncounted counts flow (unless_refused n s r)
unfolding counts_after
uncounted-unless counts flow zero s r h = h
uncounted-unless counts flow (suc n) s r h = refl

module _ (counts : List (List ℕ)) (flow : ℕ) (s : State) (row : List ℕ) where
  departure-uncounted : (handles sizes : List ℕ) (clock : ℕ) → Uncounted counts flow (flow-departure.departure s row handles sizes clock)
  unfolding flow-departure.departure counts_after
  departure-uncounted handles sizes clock =
      uncounted-unless counts flow (flow-departure.departure_refusal s row (length handles) (length sizes) clock (head_of s sizes)) s
      (departure_of s handles sizes clock) refl

  pub tick-uncounted : (clock credits : ℕ) → Uncounted counts flow (flow-tick.tick s row clock credits)
  unfolding flow-tick.tick counts_after
  tick-uncounted clock credits = uncounted-unless counts flow (flow-tick.tick_refusal s row clock) s (tick_of s clock credits) refl

-- ── each kind of call ──

module _ (flow : ℕ) (w : List ℕ) (counts : List (List ℕ)) (handles sizes : List ℕ) (known : flow ≤ 15) (clock : ℕ) where
  abbrev row : List ℕ
  row = row_of counts flow

  pub arrival-within : (handle size u word : ℕ) (w' : List ℕ) (counts' : List (List ℕ)) (handles' sizes' : List ℕ) →
      let a = flow-arrival.arrival (state_of w) row handles sizes clock size u in
      (word ≡ code_of a.answer)
      × (w' ≡ state_words a.state)
      × (counts' ≡ counts_after counts flow a.answer)
      × (handles' ≡ stored (state_of w) a.answer handles handle)
      × (sizes' ≡ stored (state_of w) a.answer sizes size) →
      Does flow w counts handles sizes (asked (ask_arrival clock handle size u)) word (lent w' counts' handles' sizes')
  unfolding arrival
  arrival-within handle size u word w' counts' handles' sizes' e =
      let m = within flow (state_of w) counts (flow-arrival.arrival (state_of w) row handles sizes clock size u) known in
      arrival-does flow w counts handles sizes clock handle size u word w' counts' handles' sizes' (rw m e)

  pub departure-within : (word : ℕ) (w' : List ℕ) →
      let a = flow-departure.departure (state_of w) row handles sizes clock in
      (word ≡ answer_word a.answer) × (w' ≡ state_words a.state) →
      Does flow w counts handles sizes (asked (ask_departure clock)) word (lent w' counts handles sizes)
  unfolding departure
  departure-within word w' (e, f) =
      let m = within flow (state_of w) counts (flow-departure.departure (state_of w) row handles sizes clock) known in
      departure-does flow w counts handles sizes clock word w'
      (rw m (e, f, departure-uncounted counts flow (state_of w) row handles sizes clock))

  pub tick-within : (credits word : ℕ) (w' : List ℕ) →
      let a = flow-tick.tick (state_of w) row clock credits in
      (word ≡ code_of a.answer) × (w' ≡ state_words a.state) →
      Does flow w counts handles sizes (asked (ask_tick clock credits)) word (lent w' counts handles sizes)
  unfolding tick
  tick-within credits word w' (e, f) =
      let m = within flow (state_of w) counts (flow-tick.tick (state_of w) row clock credits) known in
      tick-does flow w counts handles sizes clock credits word w' (rw m (e, f, tick-uncounted counts flow (state_of w) row clock credits))

-- ── an arrival that was read has its numbers in the list ──

module _ (calls : List ℕ) (at clock handle size u : ℕ) where
  abbrev InList : Call → Type 0
  InList c =
      asked (ask_arrival clock handle size u) ≡ c →
      asked (ask_arrival clock (get_or calls (at + 2) 0) (get_or calls (at + 3) 0) (get_or calls (at + 4) 0)) ≡ c

  pub arrival-read : InList (call_at calls at)
  unfolding call_at
  arrival-read =
      let kind = get_or calls (at + 5) 0 in
      at-cond InList (eqb kind 0) (λ k e. cc)
      (λ k. at-cond InList (eqb kind 2) (λ l e. cc) (λ l. at-cond InList (eqb kind 3) (λ m e. cc) (λ m e. cc)))
