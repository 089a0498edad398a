-- The state that an arrival with a verdict and an accepted departure return, and its words.
use mathlib.Core.Path.{◌≡◌, sym, ap, ◌∙◌}
use mathlib.Core.Bool.{Bool, cond, not, ◌&&◌}
use mathlib.Core.List.{List}
use Prim.Native.Nat.{ℕ, ◌+◌, ◌<◌}
use native.Mathlib.Omega.{arith}
use lib.ListN.{get_or, length}
use Rattle.pie.specs.Constants.{most_verdicts}
use Rattle.pie.specs.Verdicts.{place_of}
use Rattle.pie.proofs.Counts.{count-le-total}
use Rattle.pie.specs.declared.Verdict.{Verdict}
use Rattle.refusals.specs.declared.Packet.{Packet}
use Rattle.refusals.specs.Codes.{code_of}
use Rattle.ring.specs.Answer.{Reply}
use Rattle.refusals.specs.Answer.{departed, verdict}
use Rattle.ring.specs.Arrival.{arrival}
use Rattle.ring.specs.Departure.{departed_state, departure}
use Rattle.ring.specs.declared.State.{State}
use Rattle.ring.proofs.Replies.{decided, taken}
use Rattle.ring.proofs.WhenAccepted.{arrival-accepted}
use Rattle.ring_words.specs.Codes.{words_after}
use Rattle.ring_words.specs.Words.{arrival_words, restarted_words, state_of, state_words}
use Rattle.ring_words.proofs.Arrivals.{arrival-words}
use Rattle.ring_words.proofs.Words.{count_word}

module _ (w handles sizes : List ℕ) (clock size : ℕ) (ecn : Bool) (u : ℕ) (v : Verdict) where
  abbrev reply : Reply
  reply = arrival (state_of w) handles sizes clock size ecn u

  -- its count can rise
  pub count-lt : reply.answer ≡ verdict v → get_or w (16 + place_of v) 0 < most_verdicts
  count-lt e =
      let d = decided (state_of w) handles sizes clock size ecn u v e in
      let k = arrival-accepted (state_of w) (length handles) (length sizes) clock size d.0 in
      omega (arith, k.total-low, count-le-total (state_of w).verdicts (place_of v), count_word w v)

  -- the words that it changes make the words of the state that it returns
  pub words_of : length w ≡ 23 → reply.answer ≡ verdict v → (s : State) → reply.state ≡ s →
      arrival_words (cond (not (state_of w).active && s.active) (restarted_words w) w) s v ≡ state_words w s
  words_of h e s f =
      let d = decided (state_of w) handles sizes clock size ecn u v e in
      rw (← f, d.1) (arrival-words w h clock size v)

-- the code and the words of an arrival that is decided
pub decided-gives : {q : Reply} {s : State} {v : Verdict} {n : ℕ} (w after : List ℕ) →
    verdict v ≡ q.answer → s ≡ q.state → n ≡ place_of v → after ≡ state_words w s → (n ≡ code_of q.answer) × (after ≡ words_after q w)
decided-gives w after e f h k = rw (← e, ← f) (h, k)

-- the state that an accepted departure returns
pub departed-as : (s : State) (handles sizes : List ℕ) (clock : ℕ) (left : Packet) (after : State) →
    let reply = departure s handles sizes clock in
    departed left.handle left.size ≡ reply.answer → after ≡ reply.state → after ≡ departed_state s after.clock.0 left.size
unfolding departed_state
departed-as s handles sizes clock left after e f =
    let is : after ≡ departed_state s clock left.size = f ∙ taken s handles sizes clock left.handle left.size (sym e) in
    is ∙ ap (λ n. departed_state s n left.size) (sym (ap (λ (q : State). q.clock.0) is))
