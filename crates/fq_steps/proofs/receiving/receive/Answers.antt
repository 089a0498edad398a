-- `receive`: decided, and refused by 9 or counted; an admitted packet is written and its flow listed.
use mathlib.Core.Path.{◌≡◌, sym, ◌∙◌}
use mathlib.Core.Bool.{true}
use Prim.Native.Nat.{ℕ, ◌<◌}
use native.Mathlib.Omega.{arith}
use lib.ListN.{length}
use Rattle.pie.specs.Verdicts.{admitted}
use Rattle.fq_words.specs.Words.{state_of}
use Rattle.fq_state.proofs.Facts.{passes}
use Rattle.fq_words.proofs.Words.{length-flows}
use Rattle.fq_rules.proofs.ArrivalReplies.{arrival-dropped, arrival-lost, arrival-stored}
use Rattle.fq_rules.proofs.EachFlow.{held-listed}
use Rattle.fq_rules.proofs.WhenAccepted.{admitted-room, arrival-accepted, known, room}
use Rattle.fq_steps.proofs.receiving.receive.Goals as goal

same-below : {x y n : ℕ} → x ≡ y → y < n → x < n
same-below e h = omega arith

pub decide-decided-requires-clause-common_value : goal.decide-decided-requires-clause-common_value
decide-decided-requires-clause-common_value c =
    let s = state_of c.args.common.now c.args.lists.now c.args.order.now c.args.deficits.now c.args.flows.now in
    let a = arrival-accepted s (length c.args.handles.now) (length c.args.sizes.now) c.args.clock.0 c.args.size.0 c.requires.size_value in
    let k = known s c.args.flow c.flow_at-f.result a.formed (rw (length-flows 64 c.args.flows.now) c.requires.flow_bound) c.flow_at-f.ensures in
    ((passes s a.formed).common, k.passes)

pub decide-decided-requires-clause-bytes_bound : goal.decide-decided-requires-clause-bytes_bound
decide-decided-requires-clause-bytes_bound c =
    let s = state_of c.args.common.now c.args.lists.now c.args.order.now c.args.deficits.now c.args.flows.now in
    let a = arrival-accepted s (length c.args.handles.now) (length c.args.sizes.now) c.args.clock.0 c.args.size.0 c.requires.size_value in
    let k = known s c.args.flow c.flow_at-f.result a.formed (rw (length-flows 64 c.args.flows.now) c.requires.flow_bound) c.flow_at-f.ensures in
    (omega (arith, k.total-fit, k.common.settings.buffer-high), a.size-high)

pub lost-nowhere-requires : goal.lost-nowhere-requires
lost-nowhere-requires c =
    let s = state_of c.args.common.now c.args.lists.now c.args.order.now c.args.deficits.now c.args.flows.now in
    let a = arrival-accepted s (length c.args.handles.now) (length c.args.sizes.now) c.args.clock.0 c.args.size.0 c.requires.size_value in
    let k = known s c.args.flow c.flow_at-f.result a.formed (rw (length-flows 64 c.args.flows.now) c.requires.flow_bound) c.flow_at-f.ensures in
    (omega (arith, k.common.freed-high, a.sizes), omega (arith, k.common.freed-high, k.common.settings.slots-high))

pub returns-then-nowhere : goal.returns-then-nowhere
returns-then-nowhere c =
    let s = state_of c.args.common.now c.args.lists.now c.args.order.now c.args.deficits.now c.args.flows.now in
    λ key of-key.
    arrival-lost s _ _ _ key _ _ _ _ c.requires.size_value _ _ _
    of-key
    c.flow_at-f.ensures
    c.decide-decided.ensures.verdict_value
    (sym c.lost-nowhere.ensures ∙ c.if-nowhere.true)

pub arrived-requires : goal.arrived-requires
arrived-requires c =
    let s = state_of c.args.common.now c.args.lists.now c.args.order.now c.args.deficits.now c.args.flows.now in
    let a = arrival-accepted s (length c.args.handles.now) (length c.args.sizes.now) c.args.clock.0 c.args.size.0 c.requires.size_value in
    let k = known s c.args.flow c.flow_at-f.result a.formed (rw (length-flows 64 c.args.flows.now) c.requires.flow_bound) c.flow_at-f.ensures in
    (omega (arith, k.own.count-high, k.common.settings.slots-high), omega (arith, k.own.bytes_fit, k.common.settings.buffer-high), a.size-high)

pub counted-requires-clause-verdicts_bound : goal.counted-requires-clause-verdicts_bound
counted-requires-clause-verdicts_bound c =
    let s = state_of c.args.common.now c.args.lists.now c.args.order.now c.args.deficits.now c.args.flows.now in
    let a = arrival-accepted s (length c.args.handles.now) (length c.args.sizes.now) c.args.clock.0 c.args.size.0 c.requires.size_value in
    (a.total-low, a.size-high)

pub counted-requires-clause-count_bound : goal.counted-requires-clause-count_bound
counted-requires-clause-count_bound c =
    let s = state_of c.args.common.now c.args.lists.now c.args.order.now c.args.deficits.now c.args.flows.now in
    let a = arrival-accepted s (length c.args.handles.now) (length c.args.sizes.now) c.args.clock.0 c.args.size.0 c.requires.size_value in
    let k = known s c.args.flow c.flow_at-f.result a.formed (rw (length-flows 64 c.args.flows.now) c.requires.flow_bound) c.flow_at-f.ensures in
    let s = k.common in
    (omega (arith, s.used-is, s.used_high, s.settings.slots-high), omega (arith, k.total-fit, s.settings.buffer-high))

pub counted-requires-clause-freed_in_bounds : goal.counted-requires-clause-freed_in_bounds
counted-requires-clause-freed_in_bounds c =
    let s = state_of c.args.common.now c.args.lists.now c.args.order.now c.args.deficits.now c.args.flows.now in
    let a = arrival-accepted s (length c.args.handles.now) (length c.args.sizes.now) c.args.clock.0 c.args.size.0 c.requires.size_value in
    let k = known s c.args.flow c.flow_at-f.result a.formed (rw (length-flows 64 c.args.flows.now) c.requires.flow_bound) c.flow_at-f.ensures in
    let s = k.common in (
      omega (arith, s.freed-high, a.sizes),
      omega (arith, s.freed-high, s.settings.slots-high),
      omega (arith, s.used_high, s.settings.slots-high),
    )

pub returns-else-admits : goal.returns-else-admits
returns-else-admits c =
    let s = state_of c.args.common.now c.args.lists.now c.args.order.now c.args.deficits.now c.args.flows.now in
    λ key of-key.
    arrival-dropped s _ _ _ key _ _ _ _ c.requires.size_value _ _ _
    of-key
    c.flow_at-f.ensures
    c.decide-decided.ensures.verdict_value
    _ _ _ _
    (sym c.lost-nowhere.ensures ∙ c.if-nowhere.false)
    c.free_place-place.ensures
    c.counted.ensures
    (c.arrived.ensures _ c.decide-decided.ensures.accumulated_value)
    c.set_flow.ensures
    (sym c.admits-admits.ensures ∙ c.if-admits.false)

pub overflow_cast-word : goal.overflow_cast-word
overflow_cast-word c =
    let s = state_of c.args.common.now c.args.lists.now c.args.order.now c.args.deficits.now c.args.flows.now in
    let a = arrival-accepted s (length c.args.handles.now) (length c.args.sizes.now) c.args.clock.0 c.args.size.0 c.requires.size_value in
    omega (arith, a.size-high)

pub write_packet-requires-clause-place_in_bounds : goal.write_packet-requires-clause-place_in_bounds
write_packet-requires-clause-place_in_bounds c =
    let s = state_of c.args.common.now c.args.lists.now c.args.order.now c.args.deficits.now c.args.flows.now in
    let a = arrival-accepted s (length c.args.handles.now) (length c.args.sizes.now) c.args.clock.0 c.args.size.0 c.requires.size_value in
    let k = known s c.args.flow c.flow_at-f.result a.formed (rw (length-flows 64 c.args.flows.now) c.requires.flow_bound) c.flow_at-f.ensures in
    let admits : admitted c.decide-decided.result.verdict ≡ true = sym c.admits-admits.ensures ∙ c.if-admits.true in
    let free = (admitted-room c.args.common.now c.flow_at-f.result c.args.size.0 c.args.ecn c.args.u (rw c.decide-decided.ensures.verdict_value at admits)).1 in
    let i = same-below c.free_place-place.ensures (room c.args.common.now k.common free) in
    (omega (arith, i, a.handles), omega (arith, i, a.sizes), omega (arith, i, k.common.settings.slots-high))

pub write_packet-requires-clause-tail_in_bounds : goal.write_packet-requires-clause-tail_in_bounds
write_packet-requires-clause-tail_in_bounds c =
    let s = state_of c.args.common.now c.args.lists.now c.args.order.now c.args.deficits.now c.args.flows.now in
    let a = arrival-accepted s (length c.args.handles.now) (length c.args.sizes.now) c.args.clock.0 c.args.size.0 c.requires.size_value in
    let k = known s c.args.flow c.flow_at-f.result a.formed (rw (length-flows 64 c.args.flows.now) c.requires.flow_bound) c.flow_at-f.ensures in
    rw c.ends.ensures (omega (arith, k.own.tail-high, a.sizes), omega (arith, k.own.tail-high, k.common.settings.slots-high))

pub list-requires-clause-lists_value : goal.list-requires-clause-lists_value
list-requires-clause-lists_value c =
    let s = state_of c.args.common.now c.args.lists.now c.args.order.now c.args.deficits.now c.args.flows.now in
    let a = arrival-accepted s (length c.args.handles.now) (length c.args.sizes.now) c.args.clock.0 c.args.size.0 c.requires.size_value in
    let k = known s c.args.flow c.flow_at-f.result a.formed (rw (length-flows 64 c.args.flows.now) c.requires.flow_bound) c.flow_at-f.ensures in
    (k.lists.places, c.requires.flow_bound)

pub list-requires-clause-flow_value : goal.list-requires-clause-flow_value
list-requires-clause-flow_value c =
    let s = state_of c.args.common.now c.args.lists.now c.args.order.now c.args.deficits.now c.args.flows.now in
    let a = arrival-accepted s (length c.args.handles.now) (length c.args.sizes.now) c.args.clock.0 c.args.size.0 c.requires.size_value in
    let k = known s c.args.flow c.flow_at-f.result a.formed (rw (length-flows 64 c.args.flows.now) c.requires.flow_bound) c.flow_at-f.ensures in
    λ h. held-listed s.flows s.schedule c.args.flow k.lists c.requires.flow_bound (rw c.flow_at-f.ensures at h)

pub returns-then-admits : goal.returns-then-admits
returns-then-admits c =
    let s = state_of c.args.common.now c.args.lists.now c.args.order.now c.args.deficits.now c.args.flows.now in
    let admits : admitted c.decide-decided.result.verdict ≡ true = sym c.admits-admits.ensures ∙ c.if-admits.true in
    λ key of-key.
    arrival-stored s _ _ _ key _ _ _ _ c.requires.size_value _ _ _
    of-key
    c.flow_at-f.ensures
    c.decide-decided.ensures.verdict_value
    _ _ _ _
    (sym c.lost-nowhere.ensures ∙ c.if-nowhere.false)
    c.free_place-place.ensures
    c.counted.ensures
    (c.arrived.ensures _ c.decide-decided.ensures.accumulated_value)
    c.set_flow.ensures
    _ _ _ _
    admits
    c.list.ensures
    c.ends.ensures
    c.write_packet.ensures.handles_after
    c.write_packet.ensures.sizes_after
