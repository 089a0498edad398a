-- A running script's line is answered as a request of the run, and a bad line ends it.
use mathlib.Core.Path.{◌≡◌, refl, sym, ap, ◌∙◌}
use mathlib.Core.Bool.{Bool, cond}
use mathlib.Core.List.{List, [], ◌∷◌, ◌++◌, append_assoc, append-nil, flat_map, foldl}
use mathlib.Core.Logic.{⊎_elim}
use Rattle.std.proofs.Common.{Option, None, Some}
use Prim.Native.Nat.{ℕ, zero, suc, ◌+◌, ◌-◌, ◌^◌, ◌≤◌, min}
use native.Mathlib.Omega.{arith}
use lib.ListN.{length}
use lib.Seq.{drop_at, take_at}
use Rattle.script_command.specs.declared.Command.{Command}
use Rattle.script_command.specs.declared.Command.TheVariants.{Configure, Arrival, Departure, Tick}
use Rattle.ring.specs.Arrival.{arrival, arrival_refusal}
use Rattle.ring.specs.Departure.{departure, departure_refusal}
use Rattle.ring.specs.Fresh.{zero_state}
use Rattle.ring.specs.State.{well_formed}
use Rattle.ring.specs.Tick.{tick, tick_refusal}
use Rattle.script_answers.specs.Output.{bad_text}
use Rattle.ring_guarantees.specs.Calls.{Entry, entry}
use Rattle.ring.specs.Calls.{Queue, after, call_of}
use Rattle.calls.specs.Requests.{Request, ask_arrival, ask_departure, ask_tick}
use Rattle.script.specs.Answering.{later_line, next_line, outcome}
use Rattle.script.specs.Script.{ScriptRun, answer_line}
use Rattle.script.specs.declared.Stage.TheVariants.{Running, Ended}
use Rattle.script_guarantees.specs.Asked.{Body, asking, body_of}
use Rattle.script_guarantees.specs.Entries.{trace_of}
use Rattle.script_guarantees.specs.ScriptText.{line_text}
use Rattle.script_guarantees.proofs.Lent.{Lent, Whole, lent-after}

-- a running script with this queue; `spare` lies past its slots
abbrev pub running : (line : ℕ) (spare : List ℕ) → Queue → (output : List ℕ) → ScriptRun
running line spare q output =
    record {
      session = record { stage = Running; line = line; state = q.state };
      handles = q.handles ++ spare;
      sizes = q.sizes ++ spare;
      output = output;
    }

abbrev pub command_for : Request → Option Command
command_for (ask_arrival clock handle size ecn u) = Some (Arrival clock handle size ecn u)
command_for (ask_departure clock) = Some (Departure clock)
command_for (ask_tick clock) = Some (Tick clock)

module _ (line : ℕ) (spare : List ℕ) (q : Queue) (output : List ℕ) where
  abbrev Answers : Request → Type 0
  Answers r =
      answer_line (running line spare q output) (command_for r)
      ≡ running (next_line line) spare (after q r) (output ++ line_text (entry q.state (call_of q r)))

  whole-line : Whole q → (r : Request) → Answers r
  unfolding answer_line outcome later_line
  whole-line w (ask_arrival clock handle size ecn u) =
      rw (
        take_at q.handles spare q.state.settings.slots w.handles,
        take_at q.sizes spare q.state.settings.slots w.sizes,
        drop_at q.handles spare q.state.settings.slots w.handles,
        drop_at q.sizes spare q.state.settings.slots w.sizes,
      )
  whole-line w (ask_departure clock) =
      rw (
        take_at q.handles spare q.state.settings.slots w.handles,
        take_at q.sizes spare q.state.settings.slots w.sizes,
      )
  whole-line w (ask_tick clock) = refl

  idle-line : q.state ≡ zero_state → (r : Request) → Answers r
  unfolding answer_line outcome later_line arrival arrival_refusal departure departure_refusal tick tick_refusal well_formed
  idle-line e (ask_arrival clock handle size ecn u) = rw e
  idle-line e (ask_departure clock) = rw e
  idle-line e (ask_tick clock) = rw e

  pub request-line : Lent q → (r : Request) → Answers r
  request-line l r = ⊎_elim (λ w. whole-line w r) (λ e. idle-line e r) l

-- ── a bad line ──

-- the script has ended
abbrev ended : (line : ℕ) (spare : List ℕ) → Queue → (output : List ℕ) → ScriptRun
ended line spare q output =
    record {
      session = record { stage = Ended; line = line; state = q.state };
      handles = q.handles ++ spare;
      sizes = q.sizes ++ spare;
      output = output;
    }

ended-line : (r : ScriptRun) (command : Option Command) → r.session.stage ≡ Ended → answer_line r command ≡ r
unfolding answer_line outcome
ended-line r command e = rw (e, append-nil)

pub ended-lines : (r : ScriptRun) (commands : List (Option Command)) → r.session.stage ≡ Ended → foldl answer_line r commands ≡ r
ended-lines r [] e = refl
ended-lines r (command ∷ commands) e = rw (ended-line r command e) (ended-lines r commands e)

-- ── lines in succession ──

abbrev pub lines_on : (line : ℕ) (count : ℕ) → ℕ
lines_on line zero = line
lines_on line (suc count) = lines_on (next_line line) count

pub lines-counted : (line count : ℕ) → line ≤ 2 ^ 64 - 1 → lines_on line count ≡ min (count + line) (2 ^ 64 - 1)
lines-counted line zero h = omega arith
lines-counted line (suc count) h =
    let next : next_line line ≤ 2 ^ 64 - 1 = omega arith in
    lines-counted (next_line line) count next ∙ omega arith

-- a request's entry, and then those of what follows it
pub trace-on : (q : Queue) (r : Request) (rest : List Request) →
    trace_of q (r ∷ rest) ≡ entry q.state (call_of q r) ∷ trace_of (after q r) rest
trace-on q (ask_arrival clock handle size ecn u) rest = refl
trace-on q (ask_departure clock) rest = refl
trace-on q (ask_tick clock) rest = refl

-- and their text
text-on : (q : Queue) (r : Request) (rest : List Request) (output end : List ℕ) →
    (output ++ line_text (entry q.state (call_of q r))) ++ (flat_map line_text (trace_of (after q r) rest) ++ end)
    ≡ output ++ (flat_map line_text (trace_of q (r ∷ rest)) ++ end)
unfolding flat_map
text-on q r rest output end =
    let line = line_text (entry q.state (call_of q r)) in
    let more = flat_map line_text (trace_of (after q r) rest) in
    append_assoc output line (more ++ end)
    ∙ (ap (λ (t : List ℕ). output ++ t) (sym (append_assoc line more end))
    ∙ ap (λ (es : List Entry). output ++ (flat_map line_text es ++ end)) (sym (trace-on q r rest)))

abbrev stopped : (line : ℕ) (spare : List ℕ) → Queue → (bad : Bool) (output : List ℕ) → ScriptRun
stopped line spare q bad output =
    record {
      session = record { stage = cond bad Ended Running; line = line; state = q.state };
      handles = q.handles ++ spare;
      sizes = q.sizes ++ spare;
      output = output;
    }

-- where the lines of a body leave the script
abbrev pub left_by : (line : ℕ) (spare : List ℕ) → Queue → (output : List ℕ) → Body → ScriptRun
left_by line spare q output body =
    let n = lines_on line (length body.requests) in
    stopped n spare (foldl after q body.requests) body.bad
    (output ++ (flat_map line_text (trace_of q body.requests) ++ cond body.bad (bad_text n) []))

module _ (spare : List ℕ) where
  abbrev Leaves : List (Option Command) → Type 0
  Leaves commands =
      (line : ℕ) (q : Queue) (output : List ℕ) → Lent q →
      foldl answer_line (running line spare q output) commands ≡ left_by line spare q output (body_of commands)

  bad-line : (commands : List (Option Command)) (command : Option Command) (line : ℕ) (q : Queue) (output : List ℕ) →
      answer_line (running line spare q output) command ≡ ended line spare q (output ++ bad_text line) →
      foldl answer_line (running line spare q output) (command ∷ commands) ≡ ended line spare q (output ++ bad_text line)
  bad-line commands command line q output e = rw e (ended-lines (ended line spare q (output ++ bad_text line)) commands refl)

  good-line : (r : Request) (commands : List (Option Command)) → Leaves commands →
      (line : ℕ) (q : Queue) (output : List ℕ) → Lent q →
      foldl answer_line (running line spare q output) (command_for r ∷ commands) ≡ left_by line spare q output (asking r (body_of commands))
  good-line r commands ih line q output l =
      let b = body_of commands in
      let n = lines_on (next_line line) (length b.requests) in
      let t = output ++ line_text (entry q.state (call_of q r)) in
      ap (λ (s : ScriptRun). foldl answer_line s commands) (request-line line spare q output l r)
      ∙ (ih (next_line line) (after q r) t (lent-after q r l)
      ∙ ap (stopped n spare (foldl after (after q r) b.requests) b.bad)
      (text-on q r b.requests output (cond b.bad (bad_text n) [])))

  pub lines-leave : (commands : List (Option Command)) → Leaves commands
  unfolding answer_line outcome later_line flat_map
  lines-leave [] line q output l = ap (running line spare q) (sym (append-nil output))
  lines-leave (None ∷ commands) line q output l = bad-line commands None line q output refl
  lines-leave (Some (Configure target buffer slots) ∷ commands) line q output l =
      bad-line commands (Some (Configure target buffer slots)) line q output refl
  lines-leave (Some (Arrival clock handle size ecn u) ∷ commands) line q output l =
      good-line (ask_arrival clock handle size ecn u) commands (lines-leave commands) line q output l
  lines-leave (Some (Departure clock) ∷ commands) line q output l = good-line (ask_departure clock) commands (lines-leave commands) line q output l
  lines-leave (Some (Tick clock) ∷ commands) line q output l = good-line (ask_tick clock) commands (lines-leave commands) line q output l
