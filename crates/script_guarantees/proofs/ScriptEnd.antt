-- Any script: its first line, and then the others.
use mathlib.Core.Path.{◌≡◌, refl, sym, ap, ◌∙◌}
use mathlib.Core.Bool.{cond}
use mathlib.Core.List.{List, [], ◌∷◌, ◌++◌, foldl, map}
use Rattle.std.proofs.Common.{Option, None, Some}
use Prim.Native.Nat.{ℕ, ◌+◌, ◌-◌, ◌^◌, ◌≤◌}
use native.Mathlib.Omega.{arith}
use lib.ListN.{length, replicate, replicate-append-replicate}
use Rattle.script_command.specs.Line.{read_line}
use Rattle.script_command.specs.declared.Command.{Command}
use Rattle.script_command.specs.declared.Command.TheVariants.{Configure, Arrival, Departure, Tick}
use Rattle.ring.specs.Fresh.{fresh, settings_of, zero_state}
use Rattle.ring.specs.declared.State.{State}
use Rattle.script_answers.specs.Output.{bad_text, reply_text}
use Rattle.ring.specs.Calls.{Queue, after}
use Rattle.ring_guarantees.specs.Handed.{Run, begin, step}
use Rattle.calls.specs.Requests.{Request}
use Rattle.script.specs.Answering.{first_line, outcome}
use Rattle.script.specs.Lines.{lines_of}
use Rattle.script.specs.Script.{ScriptRun, answer_line, no_packets, start_run}
use Rattle.script.specs.declared.Stage.TheVariants.{Running, Ended}
use Rattle.script_guarantees.specs.Asked.{Body, asked_by, body_of, started}
use Rattle.script_guarantees.specs.Entries.{opened}
use Rattle.script_guarantees.specs.ScriptEnd.{ScriptEnd, end_of}
use Rattle.script_guarantees.specs.ScriptText.{line_after, text_of}
use Rattle.script_guarantees.proofs.Lent.{lent-opened}
use Rattle.script_guarantees.proofs.Lines.{ended-lines, left_by, lines-counted, lines-leave, running}
use Rattle.script_guarantees.proofs.Slots.{FewSlots, line-few}

-- ── no `c` ──

-- a script that ended at its first line
abbrev unbegun : (output : List ℕ) → ScriptRun
unbegun output =
    record {
      session = record { stage = Ended; line = 1; state = zero_state };
      handles = no_packets;
      sizes = no_packets;
      output = output;
    }

module _ (command : Option Command) (e : answer_line start_run command ≡ unbegun (bad_text 1)) where
  unbegun-lines : (commands : List (Option Command)) → foldl answer_line start_run (command ∷ commands) ≡ unbegun (bad_text 1)
  unbegun-lines commands =
      ap (λ (r : ScriptRun). foldl answer_line r commands) e ∙ ended-lines (unbegun (bad_text 1)) commands refl

-- ── a `c` ──

queue-after : (r : Run) (requests : List Request) → (foldl step r requests).queue ≡ foldl after r.queue requests
queue-after r [] = refl
queue-after r (q ∷ requests) = queue-after (step r q) requests

abbrev zeros : ℕ → List ℕ
zeros n = replicate n 0

zeros-parted : (n m : ℕ) → n ≤ m → zeros m ≡ zeros n ++ zeros (m - n)
zeros-parted n m h =
    let e : n + (m - n) ≡ m = omega arith in
    sym (replicate-append-replicate n (m - n) 0 ∙ ap zeros e)

-- a running script with these tables
abbrev tabled : (line : ℕ) → State → (output table : List ℕ) → ScriptRun
tabled line state output table =
    record { session = record { stage = Running; line = line; state = state }; handles = table; sizes = table; output = output }

module _ (target buffer slots : ℕ) (few : slots ≤ 4096) where
  configured : answer_line start_run (Some (Configure target buffer slots))
      ≡ running 2 (zeros (4096 - slots)) (opened target buffer slots) (reply_text (fresh (settings_of target buffer slots 0) 0))
  unfolding answer_line outcome first_line
  configured =
      let r = fresh (settings_of target buffer slots 0) 0 in
      ap (tabled 2 r.state (reply_text r)) (zeros-parted slots 4096 few)

  left-at-end : (body : Body) →
      left_by 2 (zeros (4096 - slots)) (opened target buffer slots) (reply_text (fresh (settings_of target buffer slots 0) 0)) body
      ≡ end_of (started target buffer slots body)
  left-at-end body =
      let two : 2 ≤ 2 ^ 64 - 1 = omega arith in
      rw (lines-counted 2 (length body.requests) two)
      (ap
      (λ (q : Queue). record {
        session = record { stage = cond body.bad Ended Running; line = line_after (length body.requests); state = q.state };
        handles = q.handles ++ zeros (4096 - slots);
        sizes = q.sizes ++ zeros (4096 - slots);
        output = text_of (started target buffer slots body);
      })
      (sym (queue-after (begin (settings_of target buffer slots 0) 0 (zeros slots) (zeros slots)) body.requests)))

  configured-lines : (commands : List (Option Command)) →
      foldl answer_line start_run (Some (Configure target buffer slots) ∷ commands) ≡ end_of (started target buffer slots (body_of commands))
  configured-lines commands =
      let q = opened target buffer slots in
      let text = reply_text (fresh (settings_of target buffer slots 0) 0) in
      ap (λ (r : ScriptRun). foldl answer_line r commands) configured
      ∙ (lines-leave (zeros (4096 - slots)) commands 2 q text (lent-opened target buffer slots)
      ∙ left-at-end (body_of commands))

-- ── any script ──

first-then-lines : (command : Option Command) (commands : List (Option Command)) → FewSlots command →
    foldl answer_line start_run (command ∷ commands) ≡ end_of (asked_by (command ∷ commands))
unfolding answer_line outcome first_line
first-then-lines None commands few = unbegun-lines None refl commands
first-then-lines (Some (Configure target buffer slots)) commands few = configured-lines target buffer slots few commands
first-then-lines (Some (Arrival clock handle size ecn u)) commands few = unbegun-lines (Some (Arrival clock handle size ecn u)) refl commands
first-then-lines (Some (Departure clock)) commands few = unbegun-lines (Some (Departure clock)) refl commands
first-then-lines (Some (Tick clock)) commands few = unbegun-lines (Some (Tick clock)) refl commands

of-lines : (lines : List (List ℕ)) → foldl answer_line start_run (map read_line lines) ≡ end_of (asked_by (map read_line lines))
of-lines [] = refl
of-lines (line ∷ lines) = first-then-lines (read_line line) (map read_line lines) (line-few line)

pub script-end : ScriptEnd
script-end input = of-lines (lines_of input)
