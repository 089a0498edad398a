-- What a call of one of the sixteen flows is known to leave, by its answer.
use mathlib.Core.Path.{◌≡◌, refl, sym, ◌∙◌}
use mathlib.Core.List.{List}
use Prim.Native.Nat.{ℕ, zero, suc}
use native.Mathlib.Omega.{arith}
use lib.ListN.{length}
use Rattle.laws.proofs.Choice.{at-cond}
use Rattle.pie.specs.declared.Verdict.{Verdict}
use Rattle.refusals.specs.Answer.{Answer, departed, refused, ticked, verdict}
use Rattle.modem_flow.specs.Answer.{Reply, unless_refused}
use Rattle.modem_flow.specs.Arrival.{arrival_refusal, arrived_state, decision_of}
use Rattle.modem_flow.specs.Arrival as flow-arrival
use Rattle.modem_flow.specs.Departure.{departed_state, departure_refusal, head_of}
use Rattle.modem_flow.specs.Departure as flow-departure
use Rattle.modem_flow.specs.Tick.{tick_refusal, ticked_state}
use Rattle.modem_flow.specs.Tick as flow-tick
use Rattle.modem_flow.specs.declared.State.{State}
use Rattle.modem.specs.Answer.{ModemReply}
use Rattle.modem.specs.Calls.{arrival, departure, flow_refused, for_flow, tick}
use Rattle.modem.specs.Counts.{row_of}
use Rattle.modem_words.specs.Words.{arrival_words, departure_words, state_of, state_words}
use Rattle.modem_words.proofs.Changed.{arrival-words, departure-words, kept, words-taken}

-- an answer that is no refusal
abbrev Accepts : Answer → Type 0
Accepts a = (n : ℕ) → a ≡ refused n → ⊥

-- whatever the flow is asked: a refused call returns the state that was given, and any other the accepted one
module _ (flow : ℕ) (s : State) (counts : List (List ℕ)) (accepted : Reply) where
  keeps : Accepts accepted.answer → (k n : ℕ) →
      (for_flow flow s counts (unless_refused k s accepted)).answer ≡ refused n → (for_flow flow s counts (unless_refused k s accepted)).state ≡ s
  unfolding for_flow
  keeps clash k n = at-cond (λ (r : ModemReply). r.answer ≡ refused n → r.state ≡ s) (flow_refused flow) (λ b h. refl) (λ b. go k)
    where
      go : (k : ℕ) → (unless_refused k s accepted).answer ≡ refused n → (unless_refused k s accepted).state ≡ s
      go zero h = absurd (clash n h)
      go (suc m) h = refl

  takes : (a : Answer) → Accepts a → (k : ℕ) →
      (for_flow flow s counts (unless_refused k s accepted)).answer ≡ a → (for_flow flow s counts (unless_refused k s accepted)).state ≡ accepted.state
  unfolding for_flow
  takes a clash k = at-cond (λ (r : ModemReply). r.answer ≡ a → r.state ≡ accepted.state) (flow_refused flow) (λ b h. absurd (clash 10 (sym h))) (λ b. go k)
    where
      go : (k : ℕ) → (unless_refused k s accepted).answer ≡ a → (unless_refused k s accepted).state ≡ accepted.state
      go zero h = refl
      go (suc m) h = absurd (clash (suc m) (sym h))

verdict-accepts : (v : Verdict) → Accepts (verdict v)
verdict-accepts v n e = let z : ◌≡◌ {A = ℕ} 0 1 = cc in omega arith

departed-accepts : (handle size : ℕ) → Accepts (departed handle size)
departed-accepts handle size n e = let z : ◌≡◌ {A = ℕ} 0 1 = cc in omega arith

-- ── the words, where a call is refused and where it is not ──

module _ (w : List ℕ) (s : State) (decoded : (s ≡ state_of w) × (length w ≡ 16)) where
  pub arrival-keeps : (counts : List (List ℕ)) (flow : ℕ) (handles sizes : List ℕ) (clock size u n : ℕ) →
      refused n ≡ (arrival s counts flow handles sizes clock size u).answer → w ≡ state_words (arrival s counts flow handles sizes clock size u).state
  unfolding arrival flow-arrival.arrival
  arrival-keeps counts flow handles sizes clock size u n e =
      let d = decision_of s size u in
      let accepted : Reply = record { answer = verdict d.verdict; state = arrived_state s clock size d } in
      rw (keeps flow s counts accepted (verdict-accepts d.verdict) (arrival_refusal s (row_of counts flow) (length handles) (length sizes) clock size) n (sym e))
      (kept w s decoded)

  pub arrival-writes : (counts : List (List ℕ)) (flow : ℕ) (handles sizes : List ℕ) (clock size u : ℕ) (v : Verdict) (after : State) (next : List ℕ) →
      verdict v ≡ (arrival s counts flow handles sizes clock size u).answer → after ≡ (arrival s counts flow handles sizes clock size u).state →
      next ≡ arrival_words w after → next ≡ state_words (arrival s counts flow handles sizes clock size u).state
  unfolding arrival flow-arrival.arrival
  arrival-writes counts flow handles sizes clock size u v after next e f g =
      let d = decision_of s size u in
      let accepted : Reply = record { answer = verdict d.verdict; state = arrived_state s clock size d } in
      let is = takes flow s counts accepted (verdict v) (verdict-accepts v) (arrival_refusal s (row_of counts flow) (length handles) (length sizes) clock size) (sym e) in
      rw is (words-taken w next after accepted.state g (f ∙ is) (arrival-words w s clock size u decoded))

  pub departure-keeps : (counts : List (List ℕ)) (flow : ℕ) (handles sizes : List ℕ) (clock n : ℕ) →
      refused n ≡ (departure s counts flow handles sizes clock).answer → w ≡ state_words (departure s counts flow handles sizes clock).state
  unfolding departure flow-departure.departure
  departure-keeps counts flow handles sizes clock n e =
      let accepted : Reply = record { answer = departed (head_of s handles) (head_of s sizes); state = departed_state s clock (head_of s sizes) } in
      let k = departure_refusal s (row_of counts flow) (length handles) (length sizes) clock (head_of s sizes) in
      rw (keeps flow s counts accepted (departed-accepts (head_of s handles) (head_of s sizes)) k n (sym e)) (kept w s decoded)

  pub departure-writes : (counts : List (List ℕ)) (flow : ℕ) (handles sizes : List ℕ) (clock handle size : ℕ) (after : State) (next : List ℕ) →
      departed handle size ≡ (departure s counts flow handles sizes clock).answer → after ≡ (departure s counts flow handles sizes clock).state →
      next ≡ departure_words w after → next ≡ state_words (departure s counts flow handles sizes clock).state
  unfolding departure flow-departure.departure
  departure-writes counts flow handles sizes clock handle size after next e f g =
      let accepted : Reply = record { answer = departed (head_of s handles) (head_of s sizes); state = departed_state s clock (head_of s sizes) } in
      let k = departure_refusal s (row_of counts flow) (length handles) (length sizes) clock (head_of s sizes) in
      let is = takes flow s counts accepted (departed handle size) (departed-accepts handle size) k (sym e) in
      rw is (departure-words w next s after clock (head_of s sizes) decoded g (f ∙ is))

  pub tick-keeps : (counts : List (List ℕ)) (flow clock credits n : ℕ) →
      refused n ≡ (tick s counts flow clock credits).answer → w ≡ state_words (tick s counts flow clock credits).state
  unfolding tick flow-tick.tick
  tick-keeps counts flow clock credits n e =
      let accepted : Reply = record { answer = ticked; state = ticked_state s clock credits } in
      rw (keeps flow s counts accepted (λ m h. let z : ◌≡◌ {A = ℕ} 0 1 = cc in omega arith) (tick_refusal s (row_of counts flow) clock) n (sym e)) (kept w s decoded)
