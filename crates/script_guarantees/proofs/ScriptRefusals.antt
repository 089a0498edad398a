-- Refusals in scripts: 2 and 9 by the theorem over runs, 3 because a script lends as many slots as the state has.
use mathlib.Core.Path.{◌≡◌, refl, sym, ap, ◌∙◌}
use mathlib.Core.Bool.{Bool, false}
use mathlib.Core.Logic.{◌≢◌, ◌⊎◌, inl, inr, ⊎_elim}
use mathlib.Core.List.{List, [], ◌∷◌, foldl, Memᴰ}
use Prim.Native.Nat.{ℕ}
use borrow.Author.Tests.{eq-eqb, eqb-false}
use lib.Dec.{eqb}
use lib.ListN.{length, length-replicate, replicate}
use Rattle.laws.specs.Every.{Every}
use Rattle.laws.proofs.Choice.{at-cond, either}
use Rattle.ring.specs.Answer.{Reply}
use Rattle.refusals.specs.Answer.{made, refused}
use Rattle.ring.specs.Fresh.{fresh, settings_of, zero_state}
use Rattle.refusals.specs.Rows.{first_refusal}
use Rattle.ring.specs.Refusals.{settings_refused, tables_refused}
use Rattle.ring.specs.declared.State.{State}
use Rattle.ring.proofs.Kept.{made-accepted}
use Rattle.ring_guarantees.specs.Calls.{Entry, ring_calls}
use Rattle.ring.specs.Calls.{reply}
use Rattle.ring.specs.Calls.{Queue, answer_of, call_of}
use Rattle.ring_guarantees.specs.Handed.{Run, begin, step}
use Rattle.calls.specs.Requests.{Request, ask_arrival, ask_departure, ask_tick}
use Rattle.ring_guarantees.specs.Refusals.{rows_of}
use Rattle.ring_guarantees.proofs.Conservation.{conservation}
use Rattle.ring_guarantees.proofs.Replies.{number_given, refused-by-number}
use Rattle.calls.proofs.Traces.{along}
use Rattle.script_guarantees.specs.Asked.{started}
use Rattle.script_guarantees.specs.Entries.{calls_of, entries_of, opened, trace_of}
use Rattle.script_guarantees.specs.ScriptRefusals.{NotByThese, ScriptRefusals}
use Rattle.script_guarantees.proofs.Idle.{idle-reply}
use Rattle.script_guarantees.proofs.Lent.{Whole, whole-after}
use Rattle.script_guarantees.proofs.Lines.{trace-on}

-- ── 1 and 3 ──

abbrev Other : ℕ → Type 0
Other n = (eqb n 1 ≡ false) × (eqb n 3 ≡ false)

-- rows of the table of refusals that cannot give 1 or 3
abbrev Harmless : ℕ × Bool → Type 0
Harmless row = Other row.0 ⊎ (row.1 ≡ false)

rows_other : (rows : List (ℕ × Bool)) → Every Harmless rows → Other (first_refusal rows)
rows_other [] h = (refl, refl)
rows_other ((number, test) ∷ rows) h =
    let rest = rows_other rows h.1 in
    ⊎_elim (λ o. either Other test number (first_refusal rows) o rest) (λ e. rw e rest) h.0

module _ (q : Queue) (w : Whole q) where
  whole-tables : tables_refused q.state (length q.handles) (length q.sizes) ≡ false
  whole-tables = rw (eq-eqb _ _ w.handles, eq-eqb _ _ w.sizes)

  number-other : (r : Request) → Other (number_given q.state (call_of q r))
  number-other (ask_arrival clock handle size ecn u) =
      rows_other (rows_of q.state (call_of q (ask_arrival clock handle size ecn u))) (
        inl (refl, refl),
        (inr whole-tables, (inl (refl, refl), (inl (refl, refl), (inl (refl, refl), tt)))),
      )
  number-other (ask_departure clock) =
      rows_other (rows_of q.state (call_of q (ask_departure clock))) (
        inl (refl, refl),
        (inr whole-tables, (inl (refl, refl), (inl (refl, refl), (inl (refl, refl), tt)))),
      )
  number-other (ask_tick clock) =
      rows_other (rows_of q.state (call_of q (ask_tick clock))) (inl (refl, refl), (inl (refl, refl), (inl (refl, refl), tt)))

  not-by-1 : (r : Request) → answer_of q r ≢ refused 1
  not-by-1 r e = eqb-false (number_given q.state (call_of q r)) 1 (number-other r).0 (refused-by-number q.state (call_of q r) 1 e).1

  not-by-3 : (r : Request) → answer_of q r ≢ refused 3
  not-by-3 r e = eqb-false (number_given q.state (call_of q r)) 3 (number-other r).1 (refused-by-number q.state (call_of q r) 3 e).1

-- ── an entry's request ──

-- the queue that an entry's request was asked of
record AskedOf (start : Run) (e : Entry) : Type 0 where
  done : List Request
  request : Request
  answer : e.answer ≡ answer_of (foldl step start done).queue request

asked_of : (requests : List Request) (r : Run) (e : Entry) → Memᴰ e (trace_of r.queue requests) → AskedOf r e
asked_of [] r e m = absurd (mathlib.Core.List.Memᴰ.not-nil m)
asked_of (q ∷ requests) r e m =
    ⊎_elim
    (λ same. record { done = []; request = q; answer = ap (λ (x : Entry). x.answer) same })
    (λ rest. let k = asked_of requests (step r q) e rest in record { done = q ∷ k.done; request = k.request; answer = k.answer })
    (mathlib.Core.List.Memᴰ.cases_cons (rw (trace-on r.queue q requests) at m))

whole-steps : (requests : List Request) (r : Run) → Whole r.queue → Whole (foldl step r requests).queue
whole-steps [] r w = w
whole-steps (q ∷ requests) r w = whole-steps requests (step r q) (whole-after r.queue q w)

module _ (target buffer slots : ℕ) where
  whole-start : (fresh (settings_of target buffer slots 0) 0).answer ≡ made → Whole (opened target buffer slots)
  unfolding fresh
  whole-start m =
      rw (made-accepted (settings_of target buffer slots 0) 0 m)
      (record { handles = length-replicate slots 0; sizes = length-replicate slots 0 })

  after-accepted : (requests : List Request) → (fresh (settings_of target buffer slots 0) 0).answer ≡ made →
      (e : Entry) → Memᴰ e (trace_of (opened target buffer slots) requests) → NotByThese e
  after-accepted requests m e i =
      let start : Run = begin (settings_of target buffer slots 0) 0 (replicate slots 0) (replicate slots 0) in
      let k = asked_of requests start e i in
      let q = (foldl step start k.done).queue in
      let w = whole-steps k.done start (whole-start m) in
      let c = conservation (settings_of target buffer slots 0) 0 (replicate slots 0) (replicate slots 0) k.done m in
      record {
        not-1 = λ h. not-by-1 q w k.request (sym k.answer ∙ h);
        not-2 = λ h. c.never-2 k.request (sym k.answer ∙ h);
        not-3 = λ h. not-by-3 q w k.request (sym k.answer ∙ h);
        not-9 = λ h. c.never-9 k.request (sym k.answer ∙ h);
      }

  zero-start : (fresh (settings_of target buffer slots 0) 0).answer ≡ refused 1 → (opened target buffer slots).state ≡ zero_state
  unfolding fresh
  zero-start =
      at-cond (λ (r : Reply). r.answer ≡ refused 1 → r.state ≡ zero_state) (settings_refused (settings_of target buffer slots 0) 0)
      (λ b e. refl)
      (λ b e. cc)

  after-refused : (requests : List Request) → (fresh (settings_of target buffer slots 0) 0).answer ≡ refused 1 →
      (e : Entry) → Memᴰ e (trace_of (opened target buffer slots) requests) → e.answer ≡ refused 2
  after-refused requests h =
      let q = opened target buffer slots in
      along ring_calls (λ s. s ≡ zero_state) (λ e. e.answer ≡ refused 2)
      (λ s z c. ap (λ (x : State). (reply x c).state) z ∙ ap (λ (r : Reply). r.state) (idle-reply c))
      (λ s z c. ap (λ (x : State). (reply x c).answer) z ∙ ap (λ (r : Reply). r.answer) (idle-reply c))
      q.state (calls_of q requests) (zero-start h)

pub script-refusals : ScriptRefusals
script-refusals input target buffer slots body a e m =
    let i : Memᴰ e (entries_of (started target buffer slots body)) = rw a at m in (
      λ h. after-accepted target buffer slots body.requests h e i,
      λ h. after-refused target buffer slots body.requests h e i,
    )
