-- A call leaves a flow that is ready for one arrival less.
use mathlib.Core.Path.{◌≡◌, refl, sym, ap, ◌∙◌}
use mathlib.Core.List.{List, [], ◌∷◌}
use Prim.Native.Nat.{ℕ, zero, suc, ◌+◌, ◌≤◌}
use native.Mathlib.Omega.{arith}
use lib.ListN.{length, length-set, set}
use borrow.Author.Tests.{le-ltb}
use Rattle.laws.proofs.Choice.{at-cond}
use Rattle.pie.specs.Verdicts.{raised, total}
use Rattle.pie.proofs.Counts.{total-raised}
use Rattle.refusals.specs.Answer.{Answer, admits}
use Rattle.modem_flow.specs.Answer.{Reply}
use Rattle.modem_flow.specs.Arrival.{arrived_state, decision_of, stored, tail_place}
use Rattle.modem_flow.specs.Departure.{departed_state}
use Rattle.modem_flow.specs.Tick.{ticked_state}
use Rattle.modem_flow.specs.declared.Settings.{Settings}
use Rattle.modem_flow.specs.declared.State.{State}
use Rattle.modem.specs.Asked.{Request, ask, ask_arrival, ask_departure, ask_tick, flow_after}
use Rattle.modem.specs.Answer.{ModemReply}
use Rattle.modem.specs.Calls.{arrival, departure, for_flow, tick}
use Rattle.modem.specs.Counts.{counts_after, row_of}
use Rattle.modem_guarantees.specs.Calls as flow-calls
use Rattle.modem_guarantees.specs.Calls.{reply}
use Rattle.modem_guarantees.specs.Handed.{Queue, call_of}
use Rattle.modem_guarantees.proofs.Replies.{acceptance, at-one-reply, reply-formed}
use Rattle.modem_words.specs.Words.{state_of, state_words}
use Rattle.modem_burst.specs.Calls as calls
use Rattle.modem_words.specs.Lent.{Lent, flow_of, reply_to}
use Rattle.modem_burst.specs.Burst.{after}
use Rattle.modem_steps.specs.Fitting.{Ready}

-- ── the flow's own reply, with its row ──

abbrev queue_of : (flow : ℕ) → Lent → Queue
queue_of flow q = record { state = state_of q.words; row = row_of q.counts flow; handles = q.handles; sizes = q.sizes }

abbrev call_for : (flow : ℕ) → Lent → Request → flow-calls.Call
call_for flow q r = call_of (queue_of flow q) r

pub within : (flow : ℕ) (s : State) (counts : List (List ℕ)) (r : Reply) → flow ≤ 15 →
    for_flow flow s counts r ≡ record { answer = r.answer; state = r.state; counts = counts_after counts flow r.answer }
unfolding for_flow
within flow s counts r h = rw (le-ltb 15 flow h)

abbrev own : (flow : ℕ) → Lent → Reply → ModemReply
own flow q a = record { answer = a.answer; state = a.state; counts = counts_after q.counts flow a.answer }

own-reply : (flow : ℕ) (q : Lent) (r : Request) → flow ≤ 15 →
    reply_to flow q (ask r) ≡ own flow q (reply (state_of q.words) (call_for flow q r))
unfolding arrival departure tick
own-reply flow q (ask_arrival clock handle size u) h = within flow _ _ _ h
own-reply flow q (ask_departure clock) h = within flow _ _ _ h
own-reply flow q (ask_tick clock credits) h = within flow _ _ _ h

-- ── what a reply keeps ──

-- the words of a state hold that state
back : (s : State) → state_of (state_words s) ≡ s
unfolding state_of state_words
back s = refl

sixteen : (s : State) → length (state_words s) ≡ 16
unfolding state_words
sixteen s = refl

-- a row that is written is the one that is read, if it is there
row-set : (P : List ℕ → Type 0) (counts : List (List ℕ)) (flow : ℕ) (row : List ℕ) → P (row_of counts flow) → P row → P (row_of (set counts flow row) flow)
row-set P [] flow row h k = h
row-set P (r ∷ counts) zero row h k = k
row-set P (r ∷ counts) (suc flow) row h k = row-set P counts flow row h k

module _ (flow : ℕ) (counts : List (List ℕ)) (s : State) where
  abbrev Keeps : Reply → Type 0
  Keeps a = (a.state.settings ≡ s.settings) × (total (row_of (counts_after counts flow a.answer) flow) ≤ total (row_of counts flow) + 1)

  accepted-keeps : (c : flow-calls.Call) → Keeps (acceptance s c)
  unfolding arrived_state departed_state ticked_state counts_after
  accepted-keeps (flow-calls.arrive row handles sizes clock handle size u) =
      let v = (decision_of s size u).verdict in (
        refl,
        row-set (λ (r : List ℕ). total r ≤ total (row_of counts flow) + 1) counts flow (raised (row_of counts flow) v) (omega arith) (total-raised (row_of counts flow) v),
      )
  accepted-keeps (flow-calls.depart row handles sizes clock) = (refl, omega arith)
  accepted-keeps (flow-calls.update row clock credits) = (refl, omega arith)

  reply-keeps : (c : flow-calls.Call) → Keeps (reply s c)
  unfolding counts_after
  reply-keeps c = at-one-reply Keeps s c (λ n. (refl, omega arith)) (λ a. accepted-keeps c)

-- ── the tables keep their lengths ──

stored-long : (s : State) (a : Answer) (table : List ℕ) (element : ℕ) → length (stored s a table element) ≡ length table
stored-long s a table element =
    at-cond (λ (l : List ℕ). length l ≡ length table) (admits a) (λ e. length-set table (tail_place s) element) (λ e. refl)

abbrev Long : Lent → Lent → Type 0
Long q next = (length next.handles ≡ length q.handles) × (length next.sizes ≡ length q.sizes)

pub after-long : (flow : ℕ) (q : Lent) (c : calls.Call) → Long q (after flow q c)
after-long flow q (calls.asked (ask_arrival clock handle size u)) =
    let a = (reply_to flow q (ask (ask_arrival clock handle size u))).answer in
    (stored-long (state_of q.words) a q.handles handle, stored-long (state_of q.words) a q.sizes size)
after-long flow q (calls.asked (ask_departure clock)) = (refl, refl)
after-long flow q (calls.asked (ask_tick clock credits)) = (refl, refl)
after-long flow q calls.unknown = (refl, refl)

-- ── ready for the next ──

state-left : (flow : ℕ) (q : Lent) (r : Request) (a : ModemReply) → (flow_after (flow_of q) (ask r) a).state ≡ a.state
state-left flow q (ask_arrival clock handle size u) a = refl
state-left flow q (ask_departure clock) a = refl
state-left flow q (ask_tick clock credits) a = refl

pub ready-kept : (flow : ℕ) (q : Lent) (c : calls.Call) (n : ℕ) → Ready flow q (suc n) → Ready flow (after flow q c) n
ready-kept flow q (calls.asked r) n (f, (l, good, h, z), room) =
    let s = state_of q.words in
    let c = call_for flow q r in
    let a = reply s c in
    let k = reply-keeps flow q.counts s c in
    let own = own-reply flow q r f in
    let left : state_of (after flow q (calls.asked r)).words ≡ a.state =
    back _ ∙ state-left flow q r (reply_to flow q (ask r)) ∙ ap (λ (m : ModemReply). m.state) own in
    let counted : (after flow q (calls.asked r)).counts ≡ counts_after q.counts flow a.answer = ap (λ (m : ModemReply). m.counts) own in
    let slots : a.state.settings.slots ≡ s.settings.slots = ap (λ (x : Settings). x.slots) k.0 in
    let long = after-long flow q (calls.asked r) in (
      f,
      (sixteen _, rw left (reply-formed s good c), long.0 ∙ h ∙ sym slots ∙ ap (λ (x : State). x.settings.slots) (sym left), long.1 ∙ z ∙ sym slots ∙ ap (λ (x : State). x.settings.slots) (sym left)),
      rw counted (omega (arith, k.1, room)),
    )
ready-kept flow q calls.unknown n (f, fit, room) = (f, fit, omega arith)

-- enough for one, where there is enough for more
pub ready-one : (flow : ℕ) (q : Lent) (n : ℕ) → 1 ≤ n → Ready flow q n → Ready flow q 1
ready-one flow q n some (f, fit, room) = (f, fit, omega arith)
