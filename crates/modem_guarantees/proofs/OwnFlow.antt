-- One call of the modem, as a flow sees it: from AsIfAlone of that call by itself; and sixteen rows of counts stay sixteen.
use mathlib.Core.Path.{◌≡◌, refl, ap, subst, ◌∙◌}
use mathlib.Core.Bool.{Bool, true, false, cond}
use mathlib.Core.List.{List, [], ◌∷◌, foldl, map}
use Prim.Native.Nat.{ℕ, ◌≤◌}
use lib.Dec.{eqb}
use lib.ListN.{length, length-set}
use borrow.Author.Tests.{eq-eqb}
use Rattle.laws.proofs.Choice.{either}
use Rattle.calls.specs.Parts.{Does, Part, another, own, own_answers, own_calls}
use Rattle.calls.specs.Traces.{trace}
use Rattle.pie.specs.Verdicts.{raised}
use Rattle.refusals.specs.Answer.{Answer, departed, made, refused, ticked, verdict}
use Rattle.modem_flow.specs.declared.State.{State}
use Rattle.modem_flow.specs.Answer.{Reply}
use Rattle.modem.specs.Asked.{Asked, ask, ask_arrival, ask_departure, ask_tick, start}
use Rattle.modem.specs.Answer.{ModemReply}
use Rattle.modem.specs.Calls.{arrival, departure, flow_refused, for_flow, fresh, tick}
use Rattle.modem.specs.Counts.{counts_after, row_of, zero_row}
use Rattle.modem_guarantees.specs.Modem.{Call, Modem, alone, alone_reply, flow_part, modem, modem_after, reply_to, view}
use Rattle.modem_guarantees.proofs.AsIfAlone.{as-if-alone}

-- ── sixteen rows ──

counts-length : (counts : List (List ℕ)) (g : ℕ) (a : Answer) → length (counts_after counts g a) ≡ length counts
unfolding counts_after
counts-length counts g (refused number) = refl
counts-length counts g made = length-set counts g zero_row
counts-length counts g (verdict v) = length-set counts g (raised (row_of counts g) v)
counts-length counts g (departed handle size) = refl
counts-length counts g ticked = refl

for-flow-length : (g : ℕ) (given : State) (counts : List (List ℕ)) (r : Reply) → length (for_flow g given counts r).counts ≡ length counts
unfolding for_flow
for-flow-length g given counts r =
    either (λ (x : ModemReply). length x.counts ≡ length counts) (flow_refused g)
    (record { answer = refused 10; state = given; counts = counts })
    (record { answer = r.answer; state = r.state; counts = counts_after counts g r.answer })
    refl
    (counts-length counts g r.answer)

reply-length : (m : Modem) (g : ℕ) (asked : Asked) → length (reply_to m (record { flow = g; asked = asked })).counts ≡ length m.counts
unfolding arrival departure fresh tick
reply-length m g (start settings clock) = for-flow-length g _ m.counts _
reply-length m g (ask (ask_arrival clock handle size u)) = for-flow-length g _ m.counts _
reply-length m g (ask (ask_departure clock)) = for-flow-length g _ m.counts _
reply-length m g (ask (ask_tick clock credits)) = for-flow-length g _ m.counts _

pub sixteen-rows : (m : Modem) (c : Call) → length m.counts ≡ 16 → length (modem_after m c).counts ≡ 16
sixteen-rows m c s = reply-length m c.flow c.asked ∙ s

pub all-sixteen : (m : Modem) (calls : List Call) → length m.counts ≡ 16 → length (foldl modem_after m calls).counts ≡ 16
all-sixteen m [] s = s
all-sixteen m (c ∷ calls) s = all-sixteen (modem_after m c) calls (sixteen-rows m c s)

-- ── one call ──

abbrev first : List Answer → Answer
first [] = made
first (a ∷ answers) = a

-- the flow, with what a test says of whose the call is
abbrev by_test : (flow : ℕ) → Bool → Part modem alone
by_test flow b = record { state = view flow; answer = λ a. a; whose = λ c. cond b (own c.asked) another }

pub flow-does : (flow : ℕ) → flow ≤ 15 → (m : Modem) (c : Call) → length m.counts ≡ 16 →
    Does (flow_part flow) m c (cond (eqb flow c.flow) (own c.asked) another)
flow-does flow h m c rows = let x = as-if-alone m (c ∷ []) flow rows h in go (eqb flow c.flow) x.answers x.state
  where
    go : (b : Bool) →
        own_answers (by_test flow b) (trace modem m (c ∷ [])) ≡ map (λ e. e.answer) (trace alone (view flow m) (own_calls (by_test flow b) (c ∷ []))) →
        view flow (modem_after m c) ≡ foldl alone.next (view flow m) (own_calls (by_test flow b) (c ∷ [])) →
        Does (flow_part flow) m c (cond b (own c.asked) another)
    go true answers state = (state, ap first answers)
    go false answers state = state

pub own-answer : (flow : ℕ) → flow ≤ 15 → (m : Modem) (asked : Asked) → length m.counts ≡ 16 →
    (reply_to m (record { flow = flow; asked = asked })).answer ≡ (alone_reply (view flow m) asked).answer
own-answer flow h m asked rows = does.1
  where
    does : Does (flow_part flow) m (record { flow = flow; asked = asked }) (own asked)
    does =
        subst (λ (b : Bool). Does (flow_part flow) m (record { flow = flow; asked = asked }) (cond b (own asked) another)) (eq-eqb flow flow refl)
        (flow-does flow h m (record { flow = flow; asked = asked }) rows)
