-- The run over words is the run over states: the one induction over a list of requests.
use mathlib.Core.Path.{◌≡◌, refl, ap, sym, ◌∙◌}
use mathlib.Core.List.{List, [], ◌∷◌, ◌++◌, append_assoc, append-nil, foldl, map}
use Prim.Native.Nat.{ℕ}
use native.Mathlib.Omega.{arith}
use lib.Dec.{eqb, ltb}
use lib.ListN.{length}
use Rattle.laws.proofs.Choice.{either}
use Rattle.pie.specs.Verdicts.{place_of}
use Rattle.refusals.specs.Answer.{Answer, admits, refused}
use Rattle.ring.specs.Answer.{Reply}
use Rattle.ring.specs.Activity.{begun}
use Rattle.ring.specs.Arrival.{verdict_of}
use Rattle.ring.specs.Fresh.{fresh, settings_of}
use Rattle.ring.specs.Refusals.{settings_refused}
use Rattle.ring.specs.declared.Settings.{Settings}
use Rattle.refusals.specs.Codes.{code_of}
use Rattle.ring_words.specs.Words.{state_of}
use Rattle.calls.specs.Packets.{Packet}
use Rattle.calls.specs.Requests.{Request, ask_arrival, ask_departure, ask_tick, departed_by}
use Rattle.ring_guarantees.specs.Handed.{Run, begin}
use Rattle.ring.specs.Calls.{after, answer_of}
use Rattle.ring_guarantees.specs.Handed.{run, step}
use Rattle.calls.specs.Requests as requests
use Rattle.ring_guarantees.proofs.Replies.{Accepted, acceptance, at-one-reply}
use Rattle.ring_words.specs.Lent.{packet_for}
use Rattle.ring_words.specs.Lent.{Lent, call_to, code_to}
use Rattle.ring_c_guarantees.specs.CHanded.{Logged, admitted_at, admitted_in, final_queue, fresh_queue, handed_out_at}
use Rattle.ring_c_guarantees.specs.CHanded.{handed_out_in, log_of, logged}
use Rattle.ring_words.specs.Lent.{leaves, queue_of}
use Rattle.ring_c_guarantees.specs.RunsJoined.{RunsJoined}
use Rattle.ring_c_guarantees.proofs.CReplies.{words_left_lem}
use Rattle.ring_c_guarantees.proofs.Codes.{admitted-below-2, refused-not, refused-not-below, same-either-way}
use Rattle.ring_c_guarantees.proofs.Decoding.{decoding}

-- ── one request ──

queue-left : (q : Lent) (r : Request) → queue_of (leaves q r) ≡ after (queue_of q) r
queue-left q (ask_arrival clock handle size ecn u) = rw (words_left_lem q.words (call_to q (ask_arrival clock handle size ecn u)))
queue-left q (ask_departure clock) = rw (words_left_lem q.words (call_to q (ask_departure clock)))
queue-left q (ask_tick clock) = rw (words_left_lem q.words (call_to q (ask_tick clock)))

-- a call's entry in the log, by its answer
abbrev logged_with : Lent → Request → Answer → Logged
logged_with q r a = record { asked = r; code = code_of a; packet = packet_for (call_to q r) a }

admitted-same : (q : Lent) (r : Request) → admitted_at (logged q r) ≡ requests.admitted_by r (answer_of (queue_of q) r)
admitted-same q (ask_arrival clock handle size ecn u) =
    let r = ask_arrival clock handle size ecn u in
    at-one-reply (λ p. admitted_at (logged_with q r p.answer) ≡ requests.admitted_by r p.answer) (state_of q.words) (call_to q r)
    (λ number. rw (refused-not-below number 2 (omega arith)))
    (λ a. rw (admitted-below-2 (verdict_of (begun (state_of q.words)) size ecn u)))
admitted-same q (ask_departure clock) =
    let r = ask_departure clock in same-either-way (ltb (code_to q r) 2) [] ∙ sym (same-either-way (admits (answer_of (queue_of q) r)) [])
admitted-same q (ask_tick clock) =
    let r = ask_tick clock in same-either-way (ltb (code_to q r) 2) [] ∙ sym (same-either-way (admits (answer_of (queue_of q) r)) [])

departed-same : (q : Lent) (r : Request) → handed_out_at (logged q r) ≡ departed_by (answer_of (queue_of q) r)
departed-same q r =
    at-one-reply (λ p. handed_out_at (logged_with q r p.answer) ≡ departed_by p.answer) (state_of q.words) (call_to q r)
    (none r)
    (some r)
  where
    none : (r : Request) (number : ℕ) → handed_out_at (logged_with q r (refused number)) ≡ []
    none (ask_arrival clock handle size ecn u) number = rw (refused-not number 0 (omega arith))
    none (ask_departure clock) number = rw (refused-not number 0 (omega arith))
    none (ask_tick clock) number = rw (refused-not number 0 (omega arith))

    some : (r : Request) → Accepted (state_of q.words) (call_to q r) →
        let a = (acceptance (state_of q.words) (call_to q r)).answer in handed_out_at (logged_with q r a) ≡ departed_by a
    some (ask_arrival clock handle size ecn u) a = same-either-way (eqb (place_of (verdict_of (begun (state_of q.words)) size ecn u)) 0) []
    some (ask_departure clock) a = refl
    some (ask_tick clock) a = refl

-- ── a list of them ──

-- the answers whose numbers the log has
abbrev pub answers_to : Lent → List Request → List Answer
answers_to q [] = []
answers_to q (r ∷ rs) = answer_of (queue_of q) r ∷ answers_to (leaves q r) rs

abbrev pub run_of : Lent → (admitted departed : List Packet) (answers : List Answer) → Run
run_of q admitted departed answers = record { queue = queue_of q; admitted = admitted; departed = departed; answers = answers }

step_same : (q : Lent) (a d : List Packet) (n : List Answer) (r : Request) →
    step (run_of q a d n) r
    ≡ run_of (leaves q r) (a ++ admitted_at (logged q r)) (d ++ handed_out_at (logged q r)) (n ++ answer_of (queue_of q) r ∷ [])
step_same q a d n r = rw (queue-left q r, admitted-same q r, departed-same q r)

steps-same : (q : Lent) (a d : List Packet) (n : List Answer) (requests : List Request) →
    foldl step (run_of q a d n) requests
    ≡ run_of (final_queue q requests) (a ++ admitted_in (log_of q requests)) (d ++ handed_out_in (log_of q requests)) (n ++ answers_to q requests)
steps-same q a d n [] = rw (append-nil a, append-nil d, append-nil n)
steps-same q a d n (r ∷ requests) =
    let e = logged q r in
    rw (step_same q a d n r)
    (simp append_assoc at
    (steps-same (leaves q r) (a ++ admitted_at e) (d ++ handed_out_at e) (n ++ answer_of (queue_of q) r ∷ []) requests))

codes_same : (q : Lent) (requests : List Request) →
    map (λ (e : Logged). e.code) (log_of q requests) ≡ map code_of (answers_to q requests)
codes_same q [] = refl
codes_same q (r ∷ requests) = ap (λ (l : List ℕ). code_to q r ∷ l) (codes_same (leaves q r) requests)

fresh-five : (settings : Settings) (clock : ℕ) → length (fresh settings clock).state.verdicts ≡ 5
unfolding fresh
fresh-five settings clock = either (λ (r : Reply). length r.state.verdicts ≡ 5) (settings_refused settings clock) _ _ refl refl

begin-same : (given : Lent) (target buffer slots profile clock : ℕ) →
    begin (settings_of target buffer slots profile) clock given.handles given.sizes
    ≡ run_of (fresh_queue given target buffer slots profile clock) [] [] []
begin-same given target buffer slots profile clock =
    let settings = settings_of target buffer slots profile in
    rw (decoding.decodes [] (fresh settings clock).state (fresh-five settings clock))

pub run-same : (given : Lent) (target buffer slots profile clock : ℕ) (requests : List Request) →
    let start = fresh_queue given target buffer slots profile clock in
    let log = log_of start requests in
    run (settings_of target buffer slots profile) clock given.handles given.sizes requests
    ≡ run_of (final_queue start requests) (admitted_in log) (handed_out_in log) (answers_to start requests)
run-same given target buffer slots profile clock requests =
    rw (begin-same given target buffer slots profile clock)
    (steps-same (fresh_queue given target buffer slots profile clock) [] [] [] requests)

pub runs-joined : RunsJoined
runs-joined given target buffer slots profile clock requests =
    let start = fresh_queue given target buffer slots profile clock in
    rw (run-same given target buffer slots profile clock requests)
    (record { queue = refl; codes = codes_same start requests; admitted = refl; departed = refl })
