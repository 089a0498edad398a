-- Of a list of both queues' calls, those on one queue are a list of its own calls: the other's leave its state.
use mathlib.Core.Path.{◌≡◌, refl, ap, subst, sym, ◌∙◌}
use mathlib.Core.List.{List, [], ◌∷◌}
use Rattle.calls.specs.Traces.{Entry, entry, trace}
use Rattle.ring.specs.Calls.{Call, arrive, depart, update}
use Rattle.pair_rules.specs.Queues.{other, own}
use Rattle.pair_rules.specs.declared.Pair.{Pair}
use Rattle.pair_rules.specs.declared.State.{State}
use Rattle.pair_rules.specs.declared.Which.{Which}
use Rattle.pair_rules.specs.declared.Which.TheVariants.{Intercom, Passengers}
use Rattle.pair_guarantees.specs.BothQueues.{BothQueues, calls_in, own_entries}
use Rattle.pair_guarantees.specs.BothRecover.{BothRecover}
use Rattle.pair_guarantees.specs.Calls.{PairCall, own_calls, pair_calls, reply}
use Rattle.pair_guarantees.proofs.Recovery.{recovery}
use Rattle.pair_guarantees.proofs.Replies.{acceptance, by_number}

accepted-leaves : (p : Pair) (w : Which) (c : Call) → other w (acceptance p w c).pair ≡ other w p
accepted-leaves p Intercom (arrive handles sizes clock handle size ecn u) = refl
accepted-leaves p Intercom (depart handles sizes clock) = refl
accepted-leaves p Intercom (update clock) = refl
accepted-leaves p Passengers (arrive handles sizes clock handle size ecn u) = refl
accepted-leaves p Passengers (depart handles sizes clock) = refl
accepted-leaves p Passengers (update clock) = refl

-- a call leaves the other queue's state
pub other-left : (p : Pair) (w : Which) (c : Call) → other w (reply p w c).pair ≡ other w p
other-left p w c = by_number (λ r. other w r.pair ≡ other w p) p w c (λ n some given. refl) (λ none. accepted-leaves p w c)

-- the entries of a queue from its state on
abbrev Own : (w : Which) → State → List (Entry (own_calls w)) → Type 0
Own w s entries = entries ≡ trace (own_calls w) s (calls_in w entries)

-- a call more, ahead of the others
step : (w x : Which) (p : Pair) (c : Call) (calls : List PairCall) →
    Own w (own w (reply p x c).pair) (own_entries w (trace pair_calls (reply p x c).pair calls)) →
    Own w (own w p) (own_entries w (trace pair_calls p (record { queue = x; call = c } ∷ calls)))
step Intercom Intercom p c calls rest =
    ap (λ more. entry (own_calls Intercom) p.intercom (record { shared = p.shared; other = p.passengers; call = c }) ∷ more) rest
step Intercom Passengers p c calls rest =
    let entries = own_entries Intercom (trace pair_calls (reply p Passengers c).pair calls) in
    subst (λ s. Own Intercom s entries) (other-left p Passengers c) rest
step Passengers Intercom p c calls rest =
    let entries = own_entries Passengers (trace pair_calls (reply p Intercom c).pair calls) in
    subst (λ s. Own Passengers s entries) (other-left p Intercom c) rest
step Passengers Passengers p c calls rest =
    ap (λ more. entry (own_calls Passengers) p.passengers (record { shared = p.shared; other = p.intercom; call = c }) ∷ more) rest

pub both-queues : BothQueues
both-queues w p [] = refl
both-queues w p (c ∷ calls) =
    step w c.queue p c.call calls (both-queues w (reply p c.queue c.call).pair calls)

pub both-recover : BothRecover
both-recover w p calls before e later formed q =
    recovery w p formed (calls_in w (own_entries w (trace pair_calls p calls))) before e later (sym (both-queues w p calls) ∙ q)
