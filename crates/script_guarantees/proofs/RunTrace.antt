-- A run told by its trace: one induction over the requests, from any run.
use mathlib.Core.Path.{◌≡◌, refl, sym, ap, ◌∙◌}
use mathlib.Core.List.{List, [], ◌∷◌, ◌++◌, append_assoc, append-nil, flat_map, foldl, map}
use Rattle.ring.specs.declared.State.{State}
use Rattle.ring_guarantees.specs.Calls.{Entry, entry}
use Rattle.ring.specs.Calls.{Queue, after, answer_of, call_of}
use Rattle.ring_guarantees.specs.Handed.{Run, begin, step}
use Rattle.calls.specs.Requests.{Request, admitted_by}
use Rattle.calls.specs.Requests.{ask_arrival, ask_departure, ask_tick}
use Rattle.script_guarantees.specs.Entries.{admitted_in, departed_in, trace_of}
use Rattle.script_guarantees.specs.RunTrace.{RunTrace, state_after}
use Rattle.script_guarantees.proofs.Lines.{trace-on}

-- what the entries add to a run
record Added (r : Run) (entries : List Entry) (t : Run) : Type 0 where
  state : t.queue.state ≡ state_after r.queue.state entries
  answers : t.answers ≡ r.answers ++ map (λ e. e.answer) entries
  admitted : t.admitted ≡ r.admitted ++ flat_map admitted_in entries
  departed : t.departed ≡ r.departed ++ flat_map departed_in entries

same-packet : (q : Queue) (r : Request) → admitted_by r (answer_of q r) ≡ admitted_in (entry q.state (call_of q r))
same-packet q (ask_arrival clock handle size ecn u) = refl
same-packet q (ask_departure clock) = refl
same-packet q (ask_tick clock) = refl

after-state : (q : Queue) (r : Request) → (after q r).state ≡ (entry q.state (call_of q r)).returned
after-state q (ask_arrival clock handle size ecn u) = refl
after-state q (ask_departure clock) = refl
after-state q (ask_tick clock) = refl

more : {A : Type 0} {t : List A} (a b c d : List A) → b ≡ c → t ≡ (a ++ b) ++ d → t ≡ a ++ (c ++ d)
more a b c d e f = f ∙ (append_assoc a b d ∙ ap (λ x. a ++ (x ++ d)) e)

steps-added : (requests : List Request) (r : Run) → Added r (trace_of r.queue requests) (foldl step r requests)
unfolding flat_map
steps-added [] r =
    record { state = refl; answers = sym (append-nil _); admitted = sym (append-nil _); departed = sym (append-nil _) }
steps-added (q ∷ requests) r =
    let k = r.queue in
    let e = entry k.state (call_of k q) in
    let es = trace_of (after k q) requests in
    let h = steps-added requests (step r q) in
    rw (trace-on k q requests) (record {
      state = h.state ∙ ap (λ (s : State). state_after s es) (after-state k q);
      answers = more r.answers (e.answer ∷ []) (e.answer ∷ []) (map (λ x. x.answer) es) refl h.answers;
      admitted = more r.admitted (admitted_by q (answer_of k q)) (admitted_in e) (flat_map admitted_in es) (same-packet k q) h.admitted;
      departed = more r.departed (departed_in e) (departed_in e) (flat_map departed_in es) refl h.departed;
    })

pub run-trace : RunTrace
run-trace settings clock handles sizes requests =
    let h = steps-added requests (begin settings clock handles sizes) in
    record { state = h.state; answers = h.answers; admitted = h.admitted; departed = h.departed }
