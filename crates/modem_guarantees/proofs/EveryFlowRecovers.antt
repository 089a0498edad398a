-- A flow's own calls do what they do where it is alone, and a record that is formed after one was formed before it, or is fresh.
use mathlib.Core.Path.{◌≡◌, refl, sym, subst}
use mathlib.Core.Bool.{Bool, true, false, cond}
use mathlib.Core.List.{List, [], ◌∷◌, foldl}
use Prim.Native.Nat.{ℕ, ◌≤◌}
use lib.Dec.{eqb}
use lib.ListN.{length}
use Rattle.calls.specs.Parts.{Does, another, own}
use Rattle.calls.specs.Traces.{entry, trace}
use Rattle.modem_flow.specs.Answer.{Reply}
use Rattle.modem_flow.specs.declared.State.{State}
use Rattle.modem_flow.specs.State.{formed}
use Rattle.modem_flow.proofs.Facts.{facts}
use Rattle.modem.specs.Asked.{Asked, Request, ask, ask_arrival, ask_departure, ask_tick, start}
use Rattle.modem_guarantees.specs.Calls as flow-calls
use Rattle.modem_guarantees.specs.Calls.{arrive, depart, reply, update}
use Rattle.modem_guarantees.specs.EveryFlowRecovers.{EveryFlowRecovers, counted_of, ticks_of}
use Rattle.modem_guarantees.specs.Handed.{Queue, call_of, returned}
use Rattle.modem_guarantees.specs.Modem.{Call, Modem, alone_after, alone_reply, flow_part, modem_after, modem, reply_to, view}
use Rattle.modem_guarantees.specs.Recovery.{counted}
use Rattle.modem_guarantees.proofs.OwnFlow.{flow-does, sixteen-rows}
use Rattle.modem_guarantees.proofs.Recovery.{Within, accepted-within, at-start, recovered}
use Rattle.modem_guarantees.proofs.Replies.{Accepted, acceptance, at-one-reply}

-- after n ticks in succession that each found the flow empty, if the record is formed
abbrev Known : (n : ℕ) → State → Type 0
Known n s = formed s ≡ true → Within s.settings.target.0 n s

-- ── one call of the flow, alone ──

accepted-formed : (s : State) (c : flow-calls.Call) → Accepted s c → formed s ≡ true
accepted-formed s (arrive row handles sizes clock handle size u) a = a.good
accepted-formed s (depart row handles sizes clock) a = a.good
accepted-formed s (update row clock credits) a = a.good

accepted-known : (n : ℕ) (s : State) (c : flow-calls.Call) → Known n s → Accepted s c →
    Known (counted n s (acceptance s c).answer) (acceptance s c).state
accepted-known n s c known a good =
    let was = accepted-formed s c a in
    let w = accepted-within s.settings.target.0 n s (facts s was) (known was) c a in
    subst (λ t. Within t (counted n s (acceptance s c).answer) (acceptance s c).state) (sym w.same) w

reply-known : (n : ℕ) (s : State) (c : flow-calls.Call) → Known n s → Known (counted n s (reply s c).answer) (reply s c).state
reply-known n s c known =
    at-one-reply (λ r. Known (counted n s r.answer) r.state) s c (λ number. known) (accepted-known n s c known)

returned-state : (q : Queue) (r : Request) (x : Reply) → (returned q r x).state ≡ x.state
returned-state q (ask_arrival clock handle size u) x = refl
returned-state q (ask_departure clock) x = refl
returned-state q (ask_tick clock credits) x = refl

next_known : (n : ℕ) (q : Queue) (asked : Asked) → Known n q.state →
    Known (counted_of n q.state asked (alone_reply q asked).answer) (alone_after q asked).state
next_known n q (start settings clock) known = at-start _
next_known n q (ask r) known =
    rw (returned-state q r (reply q.state (call_of q r))) (reply-known n q.state (call_of q r) known)

-- ── one call of the modem ──

module _ (flow : ℕ) (h : flow ≤ 15) where
  call_known : (n : ℕ) (m : Modem) (c : Call) → length m.counts ≡ 16 → Known n (view flow m).state →
      Known (ticks_of flow n (entry modem m c)) (view flow (modem_after m c)).state
  call_known n m c rows known = go (eqb flow c.flow) (flow-does flow h m c rows)
    where
      s : State
      s = (m.flows flow).state

      go : (b : Bool) → Does (flow_part flow) m c (cond b (own c.asked) another) →
          Known (cond b (counted_of n s c.asked (reply_to m c).answer) n) (view flow (modem_after m c)).state
      go true does =
          subst (λ (q : Queue). Known (counted_of n s c.asked (reply_to m c).answer) q.state) (sym does.0)
          (subst (λ a. Known (counted_of n s c.asked a) (alone_after (view flow m) c.asked).state) (sym does.1)
          (next_known n (view flow m) c.asked known))
      go false same = subst (λ (q : Queue). Known n q.state) (sym same) known

  calls-known : (n : ℕ) (m : Modem) (calls : List Call) → length m.counts ≡ 16 → Known n (view flow m).state →
      Known (foldl (ticks_of flow) n (trace modem m calls)) (view flow (foldl modem_after m calls)).state
  calls-known n m [] rows known = known
  calls-known n m (c ∷ calls) rows known =
      calls-known (ticks_of flow n (entry modem m c)) (modem_after m c) calls (sixteen-rows m c rows) (call_known n m c rows known)

-- ── the claim ──

pub every-flow-recovers : EveryFlowRecovers
every-flow-recovers m calls rows flow h good enough =
    let f = facts _ good in
    recovered _ _ _ f.target-low f.target-high (calls-known flow h 0 m calls rows (at-start _) good) enough
