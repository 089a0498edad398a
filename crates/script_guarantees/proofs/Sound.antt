-- What a script's run keeps, also after a refused `c`; and the part of a script up to a request.
use mathlib.Core.Path.{◌≡◌, refl, sym, ap, ◌∙◌}
use mathlib.Core.Bool.{Bool, true, false}
use mathlib.Core.List.{List, [], ◌∷◌, ◌++◌, foldl}
use Prim.Native.Nat.{ℕ, zero, suc}
use lib.ListN.{length, take}
use lib.Seq.{take-append_seam}
use Rattle.ring.specs.Answer.{Reply}
use Rattle.refusals.specs.Answer.{made, refused}
use Rattle.ring.specs.Fresh.{fresh, settings_of, zero_state}
use Rattle.ring.specs.Refusals.{settings_refused}
use Rattle.ring.specs.declared.State.{State}
use Rattle.ring_guarantees.specs.Calls.{Entry, entry}
use Rattle.ring.specs.Calls.{reply}
use Rattle.calls.specs.Packets.{bytes_of}
use Rattle.ring.specs.Calls.{Queue, after, answer_of, call_of}
use Rattle.ring_guarantees.specs.Handed.{Run, queued, step}
use Rattle.calls.specs.Requests.{Request}
use Rattle.ring_guarantees.proofs.Conservation.{conservation}
use Rattle.ring_guarantees.proofs.FirstInFirstOut.{first-in-first-out}
use Rattle.ring_guarantees.proofs.Refusals.{refusals}
use Rattle.script_guarantees.specs.Asked.{Asked, nothing, started, unstarted}
use Rattle.script_guarantees.specs.Entries.{entries_of, opened, run_of, trace_of}
use Rattle.script_guarantees.specs.RunTrace.{ToldBy}
use Rattle.script_guarantees.proofs.Idle.{idle-reply}
use Rattle.script_guarantees.proofs.Lent.{idle-after}
use Rattle.script_guarantees.proofs.Lines.{trace-on}
use Rattle.script_guarantees.proofs.RunTrace.{run-trace}

-- ── accepted or not ──

-- a `c` is accepted, or leaves the all-zero state
pub by-start : (P : Type 0) (target buffer slots : ℕ) → ((fresh (settings_of target buffer slots 0) 0).answer ≡ made → P) →
    ((opened target buffer slots).state ≡ zero_state → P) → P
by-start P target buffer slots accepted otherwise = go (settings_refused (settings_of target buffer slots 0) 0) refl
  where
    go : (b : Bool) → settings_refused (settings_of target buffer slots 0) 0 ≡ b → P
    go true e = otherwise (ap (λ (r : Reply). r.state) ((refusals.starts (settings_of target buffer slots 0) 0).refuses e))
    go false e = accepted ((refusals.starts (settings_of target buffer slots 0) 0).accepts e)

-- ── what a run keeps ──

pub record Sound (r : Run) : Type 0 where
  pub order : r.admitted ≡ r.departed ++ queued r.queue
  pub bytes : r.queue.state.backlog.bytes.0 ≡ bytes_of (queued r.queue)

record Idle (r : Run) : Type 0 where
  state : r.queue.state ≡ zero_state
  admitted : r.admitted ≡ []
  departed : r.departed ≡ []

idle-answer : (q : Queue) (r : Request) → q.state ≡ zero_state → answer_of q r ≡ refused 2
idle-answer q r e =
    ap (λ (s : State). (reply s (call_of q r)).answer) e ∙ ap (λ (a : Reply). a.answer) (idle-reply (call_of q r))

idle-steps : (requests : List Request) (r : Run) → Idle r → Idle (foldl step r requests)
idle-steps [] r i = i
idle-steps (q ∷ requests) r i =
    let a = idle-answer r.queue q i.state in
    idle-steps requests (step r q) (record {
      state = idle-after r.queue q i.state;
      admitted = rw (i.admitted, a);
      departed = rw (i.departed, a);
    })

idle-sound : (r : Run) → Idle r → Sound r
idle-sound r i = record { order = rw (i.admitted, i.departed, i.state); bytes = rw i.state }

run_sound : (target buffer slots : ℕ) (requests : List Request) → Sound (run_of target buffer slots requests)
run_sound target buffer slots requests =
    by-start (Sound (run_of target buffer slots requests)) target buffer slots
    (λ e. record { order = first-in-first-out _ _ _ _ requests e; bytes = (conservation _ _ _ _ requests e).held })
    (λ e. idle-sound (run_of target buffer slots requests) (idle-steps requests _ (record { state = e; admitted = refl; departed = refl })))

-- ── up to a request ──

trace-take : (k : ℕ) (requests : List Request) (q : Queue) → trace_of q (take k requests) ≡ take k (trace_of q requests)
trace-take zero requests q = refl
trace-take (suc k) [] q = refl
trace-take (suc k) (r ∷ requests) q =
    let e = entry q.state (call_of q r) in
    trace-on q r (take k requests)
    ∙ (ap (λ (es : List Entry). e ∷ es) (trace-take k requests (after q r))
    ∙ ap (take (suc k)) (sym (trace-on q r requests)))

-- every script is one that has a `c`, so far as its entries go
pub by_entries : (P : List Entry → Type 0) →
    ((target buffer slots : ℕ) (requests : List Request) → P (trace_of (opened target buffer slots) requests)) →
    (a : Asked) → P (entries_of a)
by_entries P h nothing = h 0 0 0 []
by_entries P h unstarted = h 0 0 0 []
by_entries P h (started target buffer slots body) = h target buffer slots body.requests

-- a sound run that these entries tell
pub record Part (entries : List Entry) : Type 0 where
  pub start : State
  pub part : Run
  pub told : ToldBy start entries part
  pub sound : Sound part

pub part_of : (a : Asked) (before later : List Entry) → entries_of a ≡ before ++ later → Part before
part_of a before later = by_entries (λ es. es ≡ before ++ later → Part before) go a
  where
    go : (target buffer slots : ℕ) (requests : List Request) → trace_of (opened target buffer slots) requests ≡ before ++ later → Part before
    go target buffer slots requests e =
        let first = take (length before) requests in
        let q = opened target buffer slots in
        let same : trace_of q first ≡ before
        = trace-take (length before) requests q ∙ (ap (take (length before)) e ∙ take-append_seam before later) in
        let told : ToldBy q.state (trace_of q first) (run_of target buffer slots first) = run-trace _ _ _ _ first in
        record {
          start = q.state;
          part = run_of target buffer slots first;
          told = rw same at told;
          sound = run_sound target buffer slots first;
        }
