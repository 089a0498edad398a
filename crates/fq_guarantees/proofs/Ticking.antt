-- What an accepted tick moves: no packet.
use mathlib.Core.Path.{◌≡◌, refl}
use mathlib.Core.List.{List, [], ◌∷◌, map}
use Prim.Native.Nat.{ℕ, zero, suc}
use Rattle.fq_state.specs.Flow.{flow_with}
use Rattle.fq_state.specs.State.{flow_at}
use Rattle.fq_state.specs.declared.Flow.{Flow}
use Rattle.fq_rules.specs.Answer.{ticked}
use Rattle.fq_rules.specs.Tick.{ticked_flow}
use Rattle.fq_guarantees.specs.Acceptance.{acceptance}
use Rattle.fq_guarantees.specs.Handed.{Flows, ask_tick, call_of, chain_of, returned}
use Rattle.fq_guarantees.proofs.Chained.{same_read}
use Rattle.fq_guarantees.proofs.Moves.{Moved, still-moves}
use Rattle.fq_guarantees.proofs.Whole.{Whole}

chain-kept : (target : ℕ) (f : Flow) → chain_of (ticked_flow target f) ≡ chain_of f
unfolding ticked_flow flow_with
chain-kept target f = refl

chains-kept : (target : ℕ) (flows : List Flow) → map chain_of (map (ticked_flow target) flows) ≡ map chain_of flows
chains-kept target [] = refl
chains-kept target (f ∷ flows) = rw (chain-kept target f, chains-kept target flows)

bytes-kept : (target : ℕ) (flows : List Flow) (i : ℕ) → (flow_at (map (ticked_flow target) flows) i).bytes ≡ (flow_at flows i).bytes
unfolding ticked_flow flow_with
bytes-kept target [] i = refl
bytes-kept target (f ∷ flows) zero = refl
bytes-kept target (f ∷ flows) (suc i) = bytes-kept target flows i

pub tick-moves : (q : Flows) (clock : ℕ) → Whole q → let r = ask_tick clock in
    Moved q r ticked (returned q r (acceptance q.state (call_of q r)))
tick-moves q clock h =
    let r = ask_tick clock in
    let q' = returned q r (acceptance q.state (call_of q r)) in
    let target = q.state.common.settings.target.0 in
    still-moves q r ticked q' h
    (record {
      none_in = refl;
      none_out = refl;
      chains = same_read q q' refl refl (chains-kept target q.state.flows) refl refl;
      bytes = bytes-kept target q.state.flows;
      backlog = refl;
      counted = refl;
    })
