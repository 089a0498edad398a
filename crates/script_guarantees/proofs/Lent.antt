-- A run's tables are the part of the script's that a call is lent; where the state is all-zero, any tables serve.
use mathlib.Core.Path.{◌≡◌, refl, sym, ap, ◌∙◌}
use mathlib.Core.List.{List}
use mathlib.Core.Logic.{◌⊎◌, inl, inr, ⊎_elim}
use Prim.Native.Nat.{ℕ}
use lib.ListN.{length, length-replicate, length-set, replicate}
use Rattle.laws.proofs.Choice.{at-cond}
use Rattle.ring.specs.Activity.{begun}
use Rattle.refusals.specs.Answer.{Answer, admits}
use Rattle.ring.specs.Answer.{Reply}
use Rattle.ring.specs.Arrival.{arrived_state, stored}
use Rattle.ring.specs.Departure.{departed_state}
use Rattle.ring.specs.Fresh.{fresh, settings_of, zero_state}
use Rattle.ring.specs.Refusals.{settings_refused}
use Rattle.ring.specs.Tick.{ticked_state}
use Rattle.ring.specs.declared.State.{State}
use Rattle.ring.specs.Calls.{Call, reply}
use Rattle.ring.specs.Calls.{Queue, after, call_of}
use Rattle.calls.specs.Requests.{Request, ask_arrival, ask_departure, ask_tick}
use Rattle.ring_guarantees.proofs.Replies.{at-reply}
use Rattle.script_guarantees.specs.Entries.{opened}
use Rattle.script_guarantees.proofs.Idle.{idle-reply}

-- tables of the state's own length
pub record Whole (q : Queue) : Type 0 where
  pub handles : length q.handles ≡ q.state.settings.slots
  pub sizes : length q.sizes ≡ q.state.settings.slots

abbrev pub Lent : Queue → Type 0
Lent q = Whole q ⊎ (q.state ≡ zero_state)

-- ── every call keeps it ──

same-slots : (s : State) (c : Call) → (reply s c).state.settings.slots ≡ s.settings.slots
unfolding begun arrived_state departed_state ticked_state
same-slots s =
    at-reply s (λ c r. r.state.settings.slots ≡ s.settings.slots)
    (λ c number. refl)
    (λ handles sizes clock handle size ecn u a. refl)
    (λ handles sizes clock a. refl)
    (λ clock a. refl)

length-stored : (s : State) (a : Answer) (table : List ℕ) (element : ℕ) → length (stored s a table element) ≡ length table
length-stored s a table element =
    at-cond (λ (l : List ℕ). length l ≡ length table) (admits a) (λ e. length-set table _ element) (λ e. refl)

pub whole-after : (q : Queue) (r : Request) → Whole q → Whole (after q r)
whole-after q (ask_arrival clock handle size ecn u) w =
    let c = call_of q (ask_arrival clock handle size ecn u) in
    let same = same-slots q.state c in
    let a = (reply q.state c).answer in
    record {
      handles = length-stored q.state a q.handles handle ∙ (w.handles ∙ sym same);
      sizes = length-stored q.state a q.sizes size ∙ (w.sizes ∙ sym same);
    }
whole-after q (ask_departure clock) w =
    let same = same-slots q.state (call_of q (ask_departure clock)) in
    record { handles = w.handles ∙ sym same; sizes = w.sizes ∙ sym same }
whole-after q (ask_tick clock) w =
    let same = same-slots q.state (call_of q (ask_tick clock)) in
    record { handles = w.handles ∙ sym same; sizes = w.sizes ∙ sym same }

pub idle-after : (q : Queue) (r : Request) → q.state ≡ zero_state → (after q r).state ≡ zero_state
idle-after q (ask_arrival clock handle size ecn u) e =
    rw e (ap (λ (r : Reply). r.state) (idle-reply (call_of q (ask_arrival clock handle size ecn u))))
idle-after q (ask_departure clock) e = rw e (ap (λ (r : Reply). r.state) (idle-reply (call_of q (ask_departure clock))))
idle-after q (ask_tick clock) e = rw e (ap (λ (r : Reply). r.state) (idle-reply (call_of q (ask_tick clock))))

pub lent-after : (q : Queue) (r : Request) → Lent q → Lent (after q r)
lent-after q r = ⊎_elim (λ w. inl (whole-after q r w)) (λ e. inr (idle-after q r e))

-- ── from the `c` on ──

pub lent-opened : (target buffer slots : ℕ) → Lent (opened target buffer slots)
unfolding fresh
lent-opened target buffer slots =
    at-cond (λ (r : Reply). Lent (record { state = r.state; handles = replicate slots 0; sizes = replicate slots 0 }))
    (settings_refused (settings_of target buffer slots 0) 0)
    (λ e. inr refl)
    (λ e. inl (record { handles = length-replicate slots 0; sizes = length-replicate slots 0 }))
