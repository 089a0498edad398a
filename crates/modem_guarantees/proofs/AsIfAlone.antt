-- A call to a flow is what the flow alone would do with its row, and changes nothing that the modem holds of another.
use mathlib.Core.Path.{◌≡◌, refl, ap, ap₂, ◌∙◌}
use mathlib.Core.Bool.{Bool, true, false, cond}
use mathlib.Core.Logic.{◌≢◌}
use mathlib.Core.List.{List, []}
use Prim.Native.Nat.{ℕ, ◌≤◌, ◌<◌}
use native.Mathlib.Omega.{arith}
use lib.Dec.{eqb}
use lib.ListN.{get_or, length, length-set}
use lib.Seq.{get_or-set_other, get_or-set_same}
use borrow.Author.Tests.{eq-eqb, eqb-false, eqb-true, le-ltb}
use Rattle.laws.proofs.Choice.{either}
use Rattle.calls.specs.Parts.{Does, another, own}
use Rattle.calls.proofs.Parts.{parts}
use Rattle.pie.specs.Verdicts.{raised}
use Rattle.refusals.specs.Answer.{Answer, departed, made, refused, ticked, verdict}
use Rattle.modem_flow.specs.declared.State.{State}
use Rattle.modem_flow.specs.Answer.{Reply}
use Rattle.modem.specs.Asked.{Asked, Flow, ask, ask_arrival, ask_departure, ask_tick, flow_after, start}
use Rattle.modem.specs.Answer.{ModemReply}
use Rattle.modem.specs.Calls.{arrival, departure, flow_refused, for_flow, fresh, tick}
use Rattle.modem.specs.Counts.{counts_after, row_of, zero_row}
use Rattle.modem_guarantees.specs.AsIfAlone.{AsIfAlone}
use Rattle.modem_guarantees.specs.Handed.{Queue, row_after}
use Rattle.modem_guarantees.specs.Modem.{Call, Modem, alone, alone_after, alone_reply, modem, modem_after}
use Rattle.modem_guarantees.specs.Modem.{flow_part, reply_to, view}

-- ── the table of counts ──

own_row : (counts : List (List ℕ)) (flow : ℕ) (a : Answer) → flow < length counts →
    row_of (counts_after counts flow a) flow ≡ row_after a (row_of counts flow)
unfolding counts_after
own_row counts flow (refused number) h = refl
own_row counts flow made h = get_or-set_same counts flow zero_row [] h
own_row counts flow (verdict v) h = get_or-set_same counts flow (raised (row_of counts flow) v) [] h
own_row counts flow (departed handle size) h = refl
own_row counts flow ticked h = refl

other_row : (counts : List (List ℕ)) (g flow : ℕ) (a : Answer) → flow ≢ g → row_of (counts_after counts g a) flow ≡ row_of counts flow
unfolding counts_after
other_row counts g flow (refused number) n = refl
other_row counts g flow made n = get_or-set_other counts g flow zero_row [] n
other_row counts g flow (verdict v) n = get_or-set_other counts g flow (raised (row_of counts g) v) [] n
other_row counts g flow (departed handle size) n = refl
other_row counts g flow ticked n = refl

rows-kept : (counts : List (List ℕ)) (g : ℕ) (a : Answer) → length (counts_after counts g a) ≡ length counts
unfolding counts_after
rows-kept counts g (refused number) = refl
rows-kept counts g made = length-set counts g zero_row
rows-kept counts g (verdict v) = length-set counts g (raised (row_of counts g) v)
rows-kept counts g (departed handle size) = refl
rows-kept counts g ticked = refl

-- ── any call's reply: of its own flow, and of the counts ──

abbrev reached : (flow : ℕ) (counts : List (List ℕ)) → Reply → ModemReply
reached flow counts r = record { answer = r.answer; state = r.state; counts = counts_after counts flow r.answer }

-- what a reply leaves of the counts: the other rows, and sixteen of them
record Leaves (g : ℕ) (counts : List (List ℕ)) (r : ModemReply) : Type 0 where
  others : (flow : ℕ) → flow ≢ g → row_of r.counts flow ≡ row_of counts flow
  rows : length r.counts ≡ length counts

for-flow-leaves : (g : ℕ) (given : State) (counts : List (List ℕ)) (r : Reply) → Leaves g counts (for_flow g given counts r)
unfolding for_flow
for-flow-leaves g given counts r =
    either (Leaves g counts) (flow_refused g) (record { answer = refused 10; state = given; counts = counts }) (reached g counts r)
    (record { others = λ flow n. refl; rows = refl })
    (record { others = λ flow n. other_row counts g flow r.answer n; rows = rows-kept counts g r.answer })

reply-leaves : (m : Modem) (g : ℕ) (asked : Asked) → Leaves g m.counts (reply_to m (record { flow = g; asked = asked }))
unfolding arrival departure fresh tick
reply-leaves m g (start settings clock) = for-flow-leaves g _ m.counts _
reply-leaves m g (ask (ask_arrival clock handle size u)) = for-flow-leaves g _ m.counts _
reply-leaves m g (ask (ask_departure clock)) = for-flow-leaves g _ m.counts _
reply-leaves m g (ask (ask_tick clock credits)) = for-flow-leaves g _ m.counts _

for-flow-reached : (g : ℕ) (given : State) (counts : List (List ℕ)) (r : Reply) → g ≤ 15 → for_flow g given counts r ≡ reached g counts r
unfolding for_flow
for-flow-reached g given counts r h = rw (le-ltb 15 g h)

own-reply : (m : Modem) (g : ℕ) (asked : Asked) → g ≤ 15 →
    reply_to m (record { flow = g; asked = asked }) ≡ reached g m.counts (alone_reply (view g m) asked)
unfolding arrival departure fresh tick
own-reply m g (start settings clock) h = for-flow-reached g _ m.counts _ h
own-reply m g (ask (ask_arrival clock handle size u)) h = for-flow-reached g _ m.counts _ h
own-reply m g (ask (ask_departure clock)) h = for-flow-reached g _ m.counts _ h
own-reply m g (ask (ask_tick clock credits)) h = for-flow-reached g _ m.counts _ h

-- ── what the modem holds of a flow ──

-- a flow with this row
abbrev viewed : Flow → (row : List ℕ) → Queue
viewed f row = record { state = f.state; row = row; handles = f.handles; sizes = f.sizes }

-- the flow that was called, as a reply leaves it
abbrev called : Modem → (g : ℕ) → Asked → ModemReply → Queue
called m g asked r = viewed (flow_after (m.flows g) asked r) (row_of r.counts g)

called-view : (m : Modem) (g : ℕ) (asked : Asked) →
    let c : Call = record { flow = g; asked = asked } in view g (modem_after m c) ≡ called m g asked (reply_to m c)
called-view m g asked =
    ap (λ (b : Bool). viewed (cond b (flow_after (m.flows g) asked (reply_to m (record { flow = g; asked = asked }))) (m.flows g))
    (row_of (reply_to m (record { flow = g; asked = asked })).counts g)) (eq-eqb g g refl)

alone-called : (m : Modem) (g : ℕ) (asked : Asked) → g < length m.counts →
    called m g asked (reached g m.counts (alone_reply (view g m) asked)) ≡ alone_after (view g m) asked
alone-called m g (start settings clock) h = rw (own_row m.counts g (alone_reply (view g m) (start settings clock)).answer h)
alone-called m g (ask (ask_arrival clock handle size u)) h =
    rw (own_row m.counts g (alone_reply (view g m) (ask (ask_arrival clock handle size u))).answer h)
alone-called m g (ask (ask_departure clock)) h =
    rw (own_row m.counts g (alone_reply (view g m) (ask (ask_departure clock))).answer h)
alone-called m g (ask (ask_tick clock credits)) h =
    rw (own_row m.counts g (alone_reply (view g m) (ask (ask_tick clock credits))).answer h)

own_view : (m : Modem) (g : ℕ) (asked : Asked) → g ≤ 15 → g < length m.counts →
    view g (modem_after m (record { flow = g; asked = asked })) ≡ alone_after (view g m) asked
own_view m g asked h k = called-view m g asked ∙ ap (called m g asked) (own-reply m g asked h) ∙ alone-called m g asked k

other-view : (m : Modem) (c : Call) (flow : ℕ) → eqb flow c.flow ≡ false → view flow (modem_after m c) ≡ view flow m
other-view m c flow e =
    ap₂ viewed
    (ap (λ (b : Bool). cond b (flow_after (m.flows c.flow) c.asked (reply_to m c)) (m.flows flow)) e)
    ((reply-leaves m c.flow c.asked).others flow (eqb-false flow c.flow e))

-- ── the claim ──

own-does : (m : Modem) (c : Call) → c.flow ≤ 15 → c.flow < length m.counts → Does (flow_part c.flow) m c (own c.asked)
own-does m c h k =
    (own_view m c.flow c.asked h k, ap (λ (r : ModemReply). r.answer) (own-reply m c.flow c.asked h))

flow-does : (flow : ℕ) → flow ≤ 15 → (m : Modem) (c : Call) → length m.counts ≡ 16 →
    Does (flow_part flow) m c (cond (eqb flow c.flow) (own c.asked) another)
flow-does flow h m c rows = go (eqb flow c.flow) refl
  where
    go : (b : Bool) → eqb flow c.flow ≡ b → Does (flow_part flow) m c (cond b (own c.asked) another)
    go true e =
        let same : flow ≡ c.flow = eqb-true flow c.flow e in
        rw same (own-does m c (omega arith) (omega arith))
    go false e = other-view m c flow e

pub as-if-alone : AsIfAlone
as-if-alone m calls flow rows h =
    parts modem alone (flow_part flow) (λ m. length m.counts ≡ 16)
    (λ m c s. (reply-leaves m c.flow c.asked).rows ∙ s)
    (λ m c s. flow-does flow h m c s)
    m calls rows
