-- Question 3 for scripts: from the order and from the bytes that a run has queued.
use mathlib.Core.Path.{◌≡◌, refl, sym, ap, ◌∙◌}
use mathlib.Core.List.{List, [], ◌∷◌, ◌++◌, append_assoc}
use Prim.Native.Nat.{◌+◌}
use native.Mathlib.Omega.{arith}
use Rattle.ring.specs.declared.State.{State}
use Rattle.ring_guarantees.specs.Calls.{Entry}
use Rattle.calls.specs.Packets.{bytes_of}
use Rattle.ring_guarantees.specs.Handed.{queued}
use Rattle.calls.proofs.Packets.{bytes-append}
use Rattle.script_guarantees.specs.Asked.{asked}
use Rattle.script_guarantees.specs.RunTrace.{state_after}
use Rattle.script_guarantees.specs.ScriptBytes.{ScriptBytes}
use Rattle.script_guarantees.proofs.Sound.{part_of}

last-returned : (s : State) (before : List Entry) (e : Entry) → state_after s (before ++ e ∷ []) ≡ e.returned
last-returned s [] e = refl
last-returned s (b ∷ before) e = last-returned b.returned before e

pub script-bytes : ScriptBytes
script-bytes input before e later h =
    let p = part_of (asked input) (before ++ e ∷ []) later (h ∙ sym (append_assoc before (e ∷ []) later)) in
    let r = p.part in
    let state : r.queue.state ≡ e.returned = p.told.state ∙ last-returned p.start before e in
    let all : bytes_of r.admitted ≡ bytes_of r.departed + bytes_of (queued r.queue)
    = ap bytes_of p.sound.order ∙ bytes-append r.departed (queued r.queue) in
    let told : e.returned.backlog.bytes.0 ≡ bytes_of (queued r.queue)
    = ap (λ (s : State). s.backlog.bytes.0) (sym state) ∙ p.sound.bytes in
    let admitted = ap bytes_of p.told.admitted in
    let departed = ap bytes_of p.told.departed in
    record { bytes = omega arith; cover = omega arith }
