-- A C call's words hold the state that the call over states returns.
use mathlib.Core.Path.{◌≡◌, refl, ◌∙◌}
use mathlib.Core.List.{List}
use Prim.Native.Nat.{ℕ}
use Rattle.pie.proofs.Counts.{length-raised}
use Rattle.ring.specs.Activity.{begun}
use Rattle.ring.specs.Arrival.{arrived_state, verdict_of}
use Rattle.ring.specs.Departure.{departed_state}
use Rattle.ring.specs.Tick.{ticked_state}
use Rattle.ring_words.specs.Codes.{words_after}
use Rattle.ring_words.specs.Words.{state_of}
use Rattle.ring.specs.Calls.{Call, reply}
use Rattle.ring_guarantees.proofs.Replies.{at-reply}
use Rattle.ring_words.specs.Lent.{words_left}
use Rattle.ring_c_guarantees.proofs.Decoding.{decoding}

-- a refused call leaves the words that hold its state; any other call writes its state's words
pub words_left_lem : (words : List ℕ) (c : Call) → state_of (words_left words c) ≡ (reply (state_of words) c).state
unfolding arrived_state begun departed_state ticked_state
words_left_lem w =
    let s = state_of w in
    at-reply s (λ c r. state_of (words_after r w) ≡ r.state)
    (λ c number. refl)
    (λ handles sizes clock handle size ecn u a.
    let v = verdict_of (begun s) size ecn u in
    decoding.decodes w (arrived_state (begun s) clock size v) (length-raised s.verdicts v ∙ decoding.five w))
    (λ handles sizes clock a. decoding.decodes w _ (decoding.five w))
    (λ clock a. decoding.decodes w _ (decoding.five w))
