-- A call leaves a queue that is ready for one arrival less.
use mathlib.Core.Path.{◌≡◌, refl, sym, ap, ◌∙◌}
use mathlib.Core.List.{List}
use Prim.Native.Nat.{ℕ, suc, ◌+◌, ◌≤◌}
use native.Mathlib.Omega.{arith}
use lib.ListN.{length, length-set}
use Rattle.laws.proofs.Choice.{at-cond}
use Rattle.pie.specs.Verdicts.{total}
use Rattle.pie.proofs.Counts.{length-raised, total-raised}
use Rattle.ring.specs.declared.Settings.{Settings}
use Rattle.ring.specs.declared.State.{State}
use Rattle.ring.specs.Activity.{begun}
use Rattle.refusals.specs.Answer.{Answer, admits}
use Rattle.ring.specs.Answer.{Reply}
use Rattle.ring.specs.Arrival.{arrived_state, stored, tail_place, verdict_of}
use Rattle.ring.specs.Departure.{departed_state}
use Rattle.ring.specs.Tick.{ticked_state}
use Rattle.ring_words.specs.Codes.{words_after}
use Rattle.ring_words.proofs.Words.{back, five-counts, words_long}
use Rattle.ring_words.specs.Words.{state_of, state_words}
use Rattle.ring.specs.Calls.{Call, arrive, depart, reply, update}
use Rattle.calls.specs.Requests.{Request, ask_arrival, ask_departure, ask_tick}
use Rattle.ring.specs.Calls.{after, call_of}
use Rattle.ring_guarantees.proofs.Replies.{acceptance, at-one-reply, reply-well-formed}
use Rattle.ring_words.specs.Lent.{Lent, leaves, queue_of, reply_to}
use Rattle.ring_steps.specs.Fitting.{Ready}

abbrev Replied : (w : List ℕ) → Reply → Type 0
Replied w r =
    (length (words_after r w) ≡ length w)
    × (state_of (words_after r w) ≡ r.state)
    × (r.state.settings ≡ (state_of w).settings)
    × (total r.state.verdicts ≤ total (state_of w).verdicts + 1)

long : (w : List ℕ) (s : State) → length w ≡ 23 → length (state_words w s) ≡ length w
long w s h = words_long w s ∙ sym h

accepted-replied : (w : List ℕ) → length w ≡ 23 → (c : Call) → Replied w (acceptance (state_of w) c)
unfolding arrived_state begun departed_state ticked_state
accepted-replied w l (arrive handles sizes clock handle size ecn u) =
    let s = state_of w in
    let v = verdict_of (begun s) size ecn u in
    (long w _ l, back w (arrived_state (begun s) clock size v) (length-raised s.verdicts v ∙ five-counts w), refl, total-raised s.verdicts v)
accepted-replied w l (depart handles sizes clock) = (long w _ l, back w _ (five-counts w), refl, omega arith)
accepted-replied w l (update clock) = (long w _ l, back w _ (five-counts w), refl, omega arith)

replied : (w : List ℕ) → length w ≡ 23 → (c : Call) → Replied w (reply (state_of w) c)
replied w l c = at-one-reply (Replied w) (state_of w) c (λ n. (refl, refl, refl, omega arith)) (λ a. accepted-replied w l c)

pub stored-long : (s : State) (a : Answer) (table : List ℕ) (element : ℕ) → length (stored s a table element) ≡ length table
stored-long s a table element =
    at-cond (λ (l : List ℕ). length l ≡ length table) (admits a) (λ e. length-set table (tail_place s) element) (λ e. refl)

handles-long : (q : Lent) (r : Request) → length (leaves q r).handles ≡ length q.handles
handles-long q (ask_arrival clock handle size ecn u) =
    stored-long (state_of q.words) (reply_to q (ask_arrival clock handle size ecn u)).answer q.handles handle
handles-long q (ask_departure clock) = refl
handles-long q (ask_tick clock) = refl

sizes-long : (q : Lent) (r : Request) → length (leaves q r).sizes ≡ length q.sizes
sizes-long q (ask_arrival clock handle size ecn u) =
    stored-long (state_of q.words) (reply_to q (ask_arrival clock handle size ecn u)).answer q.sizes size
sizes-long q (ask_departure clock) = refl
sizes-long q (ask_tick clock) = refl

pub leaves-long : (q : Lent) (r : Request) →
    (length (leaves q r).handles ≡ length q.handles) × (length (leaves q r).sizes ≡ length q.sizes)
leaves-long q r = (handles-long q r, sizes-long q r)

-- the words that are left hold the state that the reply returns
leaves-state : (q : Lent) (r : Request) → length q.words ≡ 23 → state_of (leaves q r).words ≡ (reply_to q r).state
leaves-state q r l = (replied q.words l (call_of (queue_of q) r)).1

-- the queue that is left is the one that the reply returns
pub leaves-queue : (q : Lent) (r : Request) → length q.words ≡ 23 → queue_of (leaves q r) ≡ after (queue_of q) r
leaves-queue q (ask_arrival clock handle size ecn u) l =
    let r = ask_arrival clock handle size ecn u in
    ap (λ (s : State). record { state = s; handles = (leaves q r).handles; sizes = (leaves q r).sizes }) (leaves-state q r l)
leaves-queue q (ask_departure clock) l =
    ap (λ (s : State). record { state = s; handles = q.handles; sizes = q.sizes }) (leaves-state q (ask_departure clock) l)
leaves-queue q (ask_tick clock) l =
    ap (λ (s : State). record { state = s; handles = q.handles; sizes = q.sizes }) (leaves-state q (ask_tick clock) l)

pub ready-kept : (q : Lent) (r : Request) (n : ℕ) → Ready q (suc n) → Ready (leaves q r) n
ready-kept q r n ((l, formed, h, z), room) =
    let c = call_of (queue_of q) r in
    let k = replied q.words l c in
    let slots : (reply (state_of q.words) c).state.settings.slots ≡ (state_of q.words).settings.slots = ap (λ (s : Settings). s.slots) k.2 in
    rw k.1 (
      (k.0 ∙ l, reply-well-formed (state_of q.words) formed c, handles-long q r ∙ h ∙ sym slots, sizes-long q r ∙ z ∙ sym slots),
      omega (arith, k.3, room),
    )

-- enough for one, where there is enough for more
pub ready-one : (q : Lent) (n : ℕ) → 1 ≤ n → Ready q n → Ready q 1
ready-one q n some (fits, room) = (fits, omega arith)
