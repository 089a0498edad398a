-- Demand 2 for scripts: what waits is what the run has queued.
use mathlib.Core.Path.{sym, ◌∙◌, ap}
use mathlib.Core.List.{List, ◌++◌}
use Rattle.calls.specs.Packets.{Packet}
use Rattle.ring_guarantees.specs.Handed.{queued}
use Rattle.script_guarantees.specs.Asked.{asked}
use Rattle.script_guarantees.specs.ScriptOrder.{ScriptOrder}
use Rattle.script_guarantees.proofs.Sound.{part_of}

pub script-order : ScriptOrder
script-order input before later e =
    let p = part_of (asked input) before later e in
    let waiting = queued p.part.queue in
    (waiting, sym p.told.admitted ∙ (p.sound.order ∙ ap (λ (ps : List Packet). ps ++ waiting) p.told.departed))
