-- An admitted packet fits the buffer and has a slot.
use mathlib.Core.Path.{◌≡◌, refl}
use mathlib.Core.Bool.{Bool, true, false, cond, false≢true}
use mathlib.Core.Logic.{◌≢◌}
use Prim.Native.Nat.{ℕ, ◌+◌, ◌≤◌, ◌<◌}
use native.Mathlib.Omega.{arith}
use borrow.Author.Tests.{eqb-false, ltb-false}
use Rattle.pie.specs.Verdicts.{admitted}
use Rattle.pie.specs.declared.Verdict.TheVariants.{DroppedBytes, DroppedSlots}
use Rattle.docsis_pie.specs.declared.Decided.{Decided}
use Rattle.modem_flow.specs.Arrival.{bytes_full, decision_of, slots_full, turned_away}
use Rattle.modem_flow.specs.declared.State.{State}

neither-full : (s : State) (bytes slots : Bool) (d : Decided) →
    admitted (cond bytes (turned_away s DroppedBytes) (cond slots (turned_away s DroppedSlots) d)).verdict ≡ true →
    (bytes ≡ false) × (slots ≡ false)
neither-full s true slots d e = absurd (false≢true e)
neither-full s false true d e = absurd (false≢true e)
neither-full s false false d e = (refl, refl)

pub admitted-room : (s : State) (size u : ℕ) → s.backlog.count ≤ s.settings.slots → admitted (decision_of s size u).verdict ≡ true →
    (s.backlog.bytes.0 + size ≤ s.settings.buffer.0) × (s.backlog.count < s.settings.slots)
unfolding decision_of
admitted-room s size u h e =
    let n = neither-full s (bytes_full s size) (slots_full s) _ e in
    let free : s.backlog.count ≢ s.settings.slots = eqb-false _ _ n.1 in
    (ltb-false _ _ n.0, omega arith)
