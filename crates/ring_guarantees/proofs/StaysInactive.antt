-- An inactive queue that no call finds more than a third full stays inactive: no arrival turns it active, and no other call can.
use mathlib.Core.Path.{◌≡◌, refl, sym, ap, ◌∙◌}
use mathlib.Core.Bool.{Bool, false}
use mathlib.Core.List.Memᴰ
use mathlib.Core.List.{[], ◌∷◌}
use mathlib.Core.Logic.{⊎_elim}
use Prim.Native.Nat.{ℕ, ◌*◌}
use borrow.Author.Tests.{le-ltb}
use Rattle.ring.specs.Activity.{begun}
use Rattle.ring.specs.Arrival.{arrived_state, verdict_of}
use Rattle.ring.specs.Departure.{departed_state}
use Rattle.ring.specs.Tick.{ticked_state}
use Rattle.ring.specs.declared.State.{State}
use Rattle.ring.proofs.Activation.{verdict-begun}
use Rattle.ring_guarantees.specs.Calls.{ByLimits, entry, limits_verdict}
use Rattle.ring.specs.Calls.{Call, reply}
use Rattle.ring_guarantees.specs.StaysInactive.{AtMostAThird, StaysInactive}
use Rattle.ring_guarantees.proofs.Replies.{at-reply, decided-verdict}

-- an arrival's rules begin in the state that it is given
begun-inactive : (s : State) → s.active ≡ false → AtMostAThird s → (begun s).active ≡ false
unfolding begun
begun-inactive s e h = rw (e, le-ltb s.settings.buffer.0 (3 * s.backlog.bytes.0) h)

next-inactive : (s : State) → s.active ≡ false → AtMostAThird s → (c : Call) → (reply s c).state.active ≡ false
unfolding arrived_state departed_state ticked_state
next-inactive s e h =
    at-reply s (λ c r. r.state.active ≡ false)
    (λ c number. e)
    (λ handles sizes clock handle size ecn u a. begun-inactive s e h)
    (λ handles sizes clock a. e)
    (λ clock a. rw e)

inactive-verdict : (s : State) (size : ℕ) (ecn : Bool) (u : ℕ) → s.active ≡ false → verdict_of s size ecn u ≡ limits_verdict s size
unfolding verdict_of
inactive-verdict s size ecn u e = rw e

entry-by-limits : (s : State) → s.active ≡ false → (c : Call) → ByLimits (entry s c)
entry-by-limits s e c handles sizes clock handle size ecn u v ec ea =
    let decided = decided-verdict s handles sizes clock handle size ecn u v (ap (λ (c : Call). (reply s c).answer) (sym ec) ∙ ea) in
    sym decided ∙ verdict-begun s size ecn u ∙ inactive-verdict s size ecn u e

pub stays-inactive : StaysInactive
stays-inactive start [] e thirds a m = absurd (Memᴰ.not-nil m)
stays-inactive start (c ∷ calls) e thirds a m =
    let h : AtMostAThird start = thirds (entry start c) (Memᴰ.head refl) in
    let next = next-inactive start e h c in
    ⊎_elim
    (λ same. rw same (next, entry-by-limits start e c))
    (λ later. stays-inactive (reply start c).state calls next (λ b n. thirds b (Memᴰ.tail n)) a later)
    (Memᴰ.cases_cons m)
