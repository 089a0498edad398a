-- One flow's packets of a list, and what a packet that enters or leaves one chain changes in each flow.
use mathlib.Core.Path.{◌≡◌, refl, ap, sym, ◌∙◌}
use mathlib.Core.Bool.{Bool, true, false}
use mathlib.Core.Logic.{◌≢◌}
use mathlib.Core.List.{List, [], ◌∷◌, ◌++◌, append-nil}
use Prim.Native.Nat.{ℕ, ◌+◌, ◌-◌, ◌≤◌, ◌<◌}
use native.Mathlib.Omega.{arith}
use borrow.Author.Tests.{eqb-true, eqb-false}
use lib.Dec.{eqb}
use lib.ListN.{get_or, length, set}
use lib.Seq.{get_or-set_other, get_or-set_same}
use Rattle.calls.specs.Packets.{Packet, Sized, bytes_of}
use Rattle.fq_state.specs.Flow.{empty_flow}
use Rattle.fq_state.specs.State.{flow_at}
use Rattle.fq_state.specs.declared.Flow.{Flow}
use Rattle.fq_guarantees.specs.Handed.{FlowPacket, of_all, of_flow}

pub of-flow-append : (flow : ℕ) (ps qs : List FlowPacket) → of_flow flow (ps ++ qs) ≡ of_flow flow ps ++ of_flow flow qs
of-flow-append flow [] qs = refl
of-flow-append flow (p ∷ ps) qs = go (eqb p.flow flow) refl (of-flow-append flow ps qs)
  where
    go : (b : Bool) → eqb p.flow flow ≡ b → of_flow flow (ps ++ qs) ≡ of_flow flow ps ++ of_flow flow qs →
        of_flow flow (p ∷ (ps ++ qs)) ≡ of_flow flow (p ∷ ps) ++ of_flow flow qs
    go true e rest = rw (e, rest)
    go false e rest = rw (e, rest)

pub of-all-append : (ps qs : List FlowPacket) → of_all (ps ++ qs) ≡ of_all ps ++ of_all qs
of-all-append [] qs = refl
of-all-append (p ∷ ps) qs = ap (λ t. p.packet ∷ t) (of-all-append ps qs)

abbrev pub single : (flow : ℕ) → Packet → List FlowPacket
single flow p = record { flow = flow; packet = p } ∷ []

-- the packet is the flow's or it is not
pub by-flow : (P : List Packet → Type 0) (i flow : ℕ) (p : Packet) →
    (i ≡ flow → P (p ∷ [])) → (flow ≢ i → P []) → P (of_flow flow (single i p))
by-flow P i flow p same other = go (eqb i flow) refl
  where
    go : (b : Bool) → eqb i flow ≡ b → P (of_flow flow (single i p))
    go true e = rw e (same (eqb-true i flow e))
    go false e = rw e (other (λ t. eqb-false i flow e (sym t)))

pub single-sized : (i flow : ℕ) (p : Packet) → Sized (p ∷ []) → Sized (of_flow flow (single i p))
single-sized i flow p sized = by-flow Sized i flow p (λ e. sized) (λ e. tt)

-- ── a packet enters chain i ──

pub put_order : (lists : List (List Packet)) (i : ℕ) (p : Packet) → i < length lists → (flow : ℕ) →
    get_or lists flow [] ++ of_flow flow (single i p) ≡ get_or (set lists i (get_or lists i [] ++ p ∷ [])) flow []
put_order lists i p inside flow =
    let ps = get_or lists i [] ++ p ∷ [] in
    by-flow (λ more. get_or lists flow [] ++ more ≡ get_or (set lists i ps) flow []) i flow p
    (λ e. rw (sym e) (sym (get_or-set_same lists i ps [] inside)))
    (λ e. append-nil (get_or lists flow []) ∙ sym (get_or-set_other lists i flow ps [] e))

pub put-bytes : (flows : List Flow) (i : ℕ) (f : Flow) (p : Packet) → i < length flows → f.bytes ≡ (flow_at flows i).bytes + p.size →
    (flow : ℕ) → (flow_at (set flows i f) flow).bytes + 0 ≡ (flow_at flows flow).bytes + bytes_of (of_flow flow (single i p))
put-bytes flows i f p inside grown flow =
    by-flow (λ more. (flow_at (set flows i f) flow).bytes + 0 ≡ (flow_at flows flow).bytes + bytes_of more) i flow p
    (λ e. rw (sym e, get_or-set_same flows i f (empty_flow 0) inside) (omega arith))
    (λ e. rw (get_or-set_other flows i flow f (empty_flow 0) e) (omega arith))

-- ── the head of chain i leaves ──

pub take-order : (lists : List (List Packet)) (i : ℕ) (p : Packet) (ps : List Packet) → i < length lists → get_or lists i [] ≡ p ∷ ps →
    (flow : ℕ) → get_or lists flow [] ++ [] ≡ of_flow flow (single i p) ++ get_or (set lists i ps) flow []
take-order lists i p ps inside split flow =
    by-flow (λ gone. get_or lists flow [] ++ [] ≡ gone ++ get_or (set lists i ps) flow []) i flow p
    (λ e. append-nil (get_or lists flow []) ∙ rw (sym e, get_or-set_same lists i ps [] inside) split)
    (λ e. append-nil (get_or lists flow []) ∙ sym (get_or-set_other lists i flow ps [] e))

pub take-bytes : (flows : List Flow) (i : ℕ) (f : Flow) (p : Packet) → i < length flows → f.bytes ≡ (flow_at flows i).bytes - p.size →
    p.size ≤ (flow_at flows i).bytes →
    (flow : ℕ) → (flow_at (set flows i f) flow).bytes + bytes_of (of_flow flow (single i p)) ≡ (flow_at flows flow).bytes + 0
take-bytes flows i f p inside fallen covers flow =
    by-flow (λ gone. (flow_at (set flows i f) flow).bytes + bytes_of gone ≡ (flow_at flows flow).bytes + 0) i flow p
    (λ e. rw (sym e, get_or-set_same flows i f (empty_flow 0) inside) (omega arith))
    (λ e. rw (get_or-set_other flows i flow f (empty_flow 0) e) (omega arith))
