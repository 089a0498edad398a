-- An admitted packet fits the buffer and has a slot.
use mathlib.Core.Path.{◌≡◌, refl}
use mathlib.Core.Bool.{Bool, true, false, cond, false≢true}
use mathlib.Core.Logic.{◌≢◌}
use Prim.Native.Nat.{ℕ, ◌+◌, ◌≤◌, ◌<◌}
use native.Mathlib.Omega.{arith}
use borrow.Author.Tests.{eqb-false, ltb-false}
use Rattle.pie.specs.Verdicts.{admitted}
use Rattle.pie.specs.declared.Verdict.{Verdict}
use Rattle.pie.specs.declared.Verdict.TheVariants.{DroppedBytes, DroppedSlots}
use Rattle.ring.specs.Arrival.{bytes_full, slots_full, verdict_of}
use Rattle.ring.specs.declared.State.{State}

neither-full : (bytes slots : Bool) (v : Verdict) →
    admitted (cond bytes DroppedBytes (cond slots DroppedSlots v)) ≡ true → (bytes ≡ false) × (slots ≡ false)
neither-full true slots v e = absurd (false≢true e)
neither-full false true v e = absurd (false≢true e)
neither-full false false v e = (refl, refl)

pub admitted-room : (s : State) (size : ℕ) (ecn : Bool) (u : ℕ) →
    s.backlog.count ≤ s.settings.slots → admitted (verdict_of s size ecn u) ≡ true →
    (s.backlog.bytes.0 + size ≤ s.settings.buffer.0) × (s.backlog.count < s.settings.slots)
unfolding verdict_of
admitted-room s size ecn u h e =
    let n = neither-full (bytes_full s size) (slots_full s) _ e in
    let free : s.backlog.count ≢ s.settings.slots = eqb-false _ _ n.1 in
    (ltb-false _ _ n.0, omega arith)
