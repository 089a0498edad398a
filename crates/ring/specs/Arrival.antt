-- An arrival (document 01, 'Arrival').
use Rattle.std.specs.Prelude.{Bool, cond, List, [], ◌∷◌, ℕ, ◌+◌, ◌%◌, ltb, eqb, length, set}
use Rattle.units.specs.Kinds.{micros, prob}
use Rattle.pie.specs.Backlog.{entered}
use Rattle.pie.specs.DropDecision.{accumulated_after, drop_decision}
use Rattle.pie.specs.Verdicts.{admitted, raised}
use Rattle.pie.specs.declared.Pie.{Pie}
use Rattle.pie.specs.declared.Verdict.{Verdict}
use Rattle.pie.specs.declared.Verdict.TheVariants.{DroppedBytes, DroppedSlots, Enqueued}
use Rattle.refusals.specs.Rows.{first_refusal}
use Rattle.refusals.specs.Tests.{size_refused}
use Rattle.ring.specs.Activity.{begun}
use Rattle.refusals.specs.Answer.{Answer, admits, verdict}
use Rattle.ring.specs.Answer.{Reply, unless_refused}
use Rattle.ring.specs.Refusals.{clock_refused, counts_refused, state_refused, tables_refused}
use Rattle.ring.specs.declared.State.{State}

abbrev pub arrival_refusals : State → (handles_length sizes_length clock size : ℕ) → List (ℕ × Bool)
arrival_refusals s handles_length sizes_length clock size =
    (2, state_refused s)
    ∷ (3, tables_refused s handles_length sizes_length)
    ∷ (4, clock_refused s clock)
    ∷ (7, size_refused size)
    ∷ (8, counts_refused s)
    ∷ []

unfoldable pub arrival_refusal : State → (handles_length sizes_length clock size : ℕ) → ℕ
arrival_refusal s handles_length sizes_length clock size = first_refusal (arrival_refusals s handles_length sizes_length clock size)

-- rule 1
abbrev pub bytes_full : State → (size : ℕ) → Bool
bytes_full s size = ltb s.settings.buffer.0 (s.backlog.bytes.0 + size)

-- rule 2
abbrev pub slots_full : State → Bool
slots_full s = eqb s.backlog.count s.settings.slots

-- rules 1 to 7: the first that holds decides; in an inactive queue rules 1 and 2 alone (Q-12)
unfoldable pub verdict_of : State → (size : ℕ) (ecn : Bool) (u : ℕ) → Verdict
verdict_of s size ecn u =
    cond (bytes_full s size) DroppedBytes
    (cond (slots_full s) DroppedSlots
    (cond s.active (drop_decision s.pie s.settings.target.0 s.backlog.bytes.0 ecn u)
    Enqueued))

-- the accumulated probability moves on (Q-3), in an active queue; probability, delays and allowance don't change
abbrev pub arrived_pie : State → Verdict → Pie
arrived_pie s v =
    let pie = s.pie in
    record {
      prob = pie.prob;
      old = pie.old;
      allowance = pie.allowance;
      accumulated = cond s.active (prob (accumulated_after pie s.settings.target.0 s.backlog.bytes.0 v)) pie.accumulated;
      rate = pie.rate;
    }

-- enqueued and marked packets go to the tail; the verdict's count rises by one; the rest stays
unfoldable pub arrived_state : State → (clock size : ℕ) → Verdict → State
arrived_state s clock size v =
    record {
      settings = s.settings;
      clock = micros clock;
      last = s.last;
      pie = arrived_pie s v;
      backlog = cond (admitted v) (entered s.backlog size) s.backlog;
      first = s.first;
      verdicts = raised s.verdicts v;
      active = s.active;
    }

-- the rules are those of the state in which they begin
unfoldable pub arrival : State → (handles sizes : List ℕ) (clock size : ℕ) (ecn : Bool) (u : ℕ) → Reply
arrival s handles sizes clock size ecn u =
    let v = verdict_of (begun s) size ecn u in
    unless_refused (arrival_refusal s (length handles) (length sizes) clock size) s
    (record { answer = verdict v; state = arrived_state (begun s) clock size v })

-- the place of the tail: the packet at place i stands at (first + i) modulo slots
abbrev pub tail_place : State → ℕ
tail_place s = (s.first + s.backlog.count) % s.settings.slots

-- a table after an arrival: an admitted one writes exactly one element
abbrev pub stored : State → Answer → (table : List ℕ) (element : ℕ) → List ℕ
stored s a table element = cond (admits a) (set table (tail_place s) element) table
