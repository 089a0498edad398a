-- Numbers that are not given to a queue that is handed back untouched: its state is well formed, and its head has a size that may leave.
use mathlib.Core.Path.{◌≡◌, refl}
use mathlib.Core.Bool.{Bool, true, false}
use mathlib.Core.Logic.{◌≢◌}
use mathlib.Core.List.Memᴰ
use mathlib.Core.List.{List, ◌∷◌}
use Prim.Native.Nat.{ℕ, ◌+◌, ◌-◌, ◌%◌, ◌<◌}
use native.Mathlib.Omega.{arith}
use lib.ListN.{length}
use Rattle.ring.specs.declared.State.{State}
use Rattle.refusals.specs.Answer.{refused}
use Rattle.ring.specs.Departure.{head_of}
use Rattle.refusals.specs.Tests.{head_refused}
use Rattle.refusals.proofs.Fitting.{fitting-head}
use Rattle.refusals.proofs.Ordered.{after_first, first_test, past_first, test-fails, test_of}
use Rattle.ring.specs.Refusals.{empty_refused}
use Rattle.ring.specs.State.{well_formed}
use Rattle.ring.proofs.Facts.{facts}
use Rattle.ring.specs.Calls.{Call, arrive, depart, update, reply}
use Rattle.calls.specs.Packets.{Packet, Sized, bytes_of}
use Rattle.calls.specs.Ring.{ring, slot}
use Rattle.calls.proofs.Packets.{sized-bytes}
use Rattle.calls.proofs.Ring.{leaves, length-listed}
use Rattle.ring.specs.Calls.{Queue}
use Rattle.ring_guarantees.specs.Handed.{queued}
use Rattle.calls.specs.Requests.{Request, ask_arrival, ask_departure, ask_tick}
use Rattle.ring_guarantees.specs.Refusals.{Applies, rows_of}
use Rattle.ring_guarantees.proofs.Refusals.{calls-refused}

-- a number whose test fails is not given
pub not-given : (s : State) (c : Call) (n : ℕ) → test_of n (rows_of s c) ≡ false → (reply s c).answer ≢ refused n
not-given s c n fails e = test-fails n (rows_of s c) fails ((calls-refused s c).lowest n e).0

well-formed-first : (s : State) (c : Call) → well_formed s ≡ true → first_test (rows_of s c) ≡ false
well-formed-first s (arrive handles sizes clock handle size ecn u) w = rw w
well-formed-first s (depart handles sizes clock) w = rw w
well-formed-first s (update clock) w = rw w

-- nor is one that no row but the first has, where the state is well formed
pub not-given-first : (s : State) (c : Call) (n : ℕ) → well_formed s ≡ true → test_of n (after_first (rows_of s c)) ≡ false →
    (reply s c).answer ≢ refused n
not-given-first s c n w f = not-given s c n (past_first n (rows_of s c) (well-formed-first s c w) f)

-- nor is a number above 6 whose test fails where a packet is queued: a departure from an empty queue is refused by 6
pub not-given-past-6 : (s : State) (handles sizes : List ℕ) (clock n : ℕ) → 6 < n →
    (empty_refused s ≡ false → test_of n (rows_of s (depart handles sizes clock)) ≡ false) →
    (reply s (depart handles sizes clock)).answer ≢ refused n
not-given-past-6 s handles sizes clock n above fails e = go (empty_refused s) refl
  where
    c : Call
    c = depart handles sizes clock

    go : (b : Bool) → empty_refused s ≡ b → ⊥
    go true empty =
        let row : ◌≡◌ {A = ℕ × Bool} (6, true) (6, empty_refused s) = rw empty in
        let six : Applies s c 6 = Memᴰ.tail (Memᴰ.tail (Memᴰ.tail (Memᴰ.head row))) in
        omega (arith, ((calls-refused s c).lowest n e).1 6 six)
    go false some = not-given s c n (fails some) e

pub at-request : (P : Request → Type 0) → ((clock handle size : ℕ) (ecn : Bool) (u : ℕ) → P (ask_arrival clock handle size ecn u)) →
    ((clock : ℕ) → P (ask_departure clock)) → ((clock : ℕ) → P (ask_tick clock)) → (q : Request) → P q
at-request P a d t (ask_arrival clock handle size ecn u) = a clock handle size ecn u
at-request P a d t (ask_departure clock) = d clock
at-request P a d t (ask_tick clock) = t clock

-- the head of a queue that holds packets of a size that may arrive may leave
pub head-leaves : (q : Queue) → well_formed q.state ≡ true → q.state.backlog.bytes.0 ≡ bytes_of (queued q) → Sized (queued q) →
    q.state.backlog.count ≢ 0 → head_refused q.state.backlog (head_of q.state q.sizes) ≡ false
head-leaves q formed held all-sized some =
    let s = q.state in
    let b = s.backlog.bytes.0 in
    let n = s.backlog.count in
    let slots = s.settings.slots in
    let size = head_of s q.sizes in
    let rest : List Packet = ring ((s.first + 1) % slots) slots q.handles q.sizes (n - 1) in
    let split : queued q ≡ slot q.handles q.sizes s.first ∷ rest
    = leaves s.first slots q.handles q.sizes (facts s formed).first-high n (omega arith) in
    let sized : Sized (slot q.handles q.sizes s.first ∷ rest) = rw split at all-sized in
    let all : b ≡ size + bytes_of rest = cc (held, split) in
    let range = sized-bytes rest sized.2 in
    let others : length rest ≡ n - 1 = length-listed (n - 1) _ in
    fitting-head s.backlog size (record {
      low = omega arith;
      high = omega arith;
      fits = omega arith;
      left-low = omega arith;
      left-high = omega arith;
    })
