-- 25: an arrival is document 01's with the PIE state and the bytes of its flow; rules 1 and 2 read all flows together.
use Rattle.std.specs.Prelude.{Bool, cond, not, ◌&&◌, List, [], ◌∷◌, ◌++◌, ℕ, ◌+◌, ltb, eqb, length, set}
use Rattle.units.specs.Kinds.{micros, prob}
use Rattle.pie.specs.Backlog.{entered}
use Rattle.pie.specs.DropDecision.{accumulated_after, drop_decision}
use Rattle.pie.specs.Verdicts.{admitted, raised}
use Rattle.pie.specs.declared.Pie.{Pie}
use Rattle.pie.specs.declared.Verdict.{Verdict}
use Rattle.pie.specs.declared.Verdict.TheVariants.{DroppedBytes, DroppedSlots}
use Rattle.hash.specs.OneAtATime.{flow_of}
use Rattle.refusals.specs.Rows.{first_refusal}
use Rattle.refusals.specs.Tests.{size_refused}
use Rattle.schedule.specs.Entering.{is_listed}
use Rattle.schedule.specs.Ring.{Schedule, entered_in, two_lists}
use Rattle.store.specs.Following.{link_refused}
use Rattle.store.specs.Put.{ends_after_put, free_place, handles_after_put, sizes_after_put, store_after_put}
use Rattle.fq_state.specs.Flow.{backlog_of, ends_of, flow_with, pie_of}
use Rattle.fq_state.specs.State.{State, flow_at}
use Rattle.fq_state.specs.declared.Common.{Common}
use Rattle.fq_state.specs.declared.Flow.{Flow}
use Rattle.fq_rules.specs.Answer.{Answer, Reply, admits, unless_refused, verdict}
use Rattle.fq_rules.specs.Refusals.{clock_refused, counts_refused, state_refused, tables_refused}

-- 22: the flow of a call with this key
abbrev pub flow_number : State → (key : List ℕ) → ℕ
flow_number s key = flow_of key s.common.settings.salt

-- rule 1: the total bytes
abbrev pub bytes_full : Common → (size : ℕ) → Bool
bytes_full c size = ltb c.settings.buffer.0 (c.backlog.bytes.0 + size)

-- rule 2: the total count
abbrev pub slots_full : Common → Bool
slots_full c = eqb c.backlog.count c.settings.slots

-- rules 1 to 7: the first that holds decides; rules 3 to 7 read the flow's own PIE state and bytes
unfoldable pub verdict_of : Common → Flow → (size : ℕ) (ecn : Bool) (u : ℕ) → Verdict
verdict_of c f size ecn u =
    cond (bytes_full c size) DroppedBytes
    (cond (slots_full c) DroppedSlots
    (drop_decision (pie_of f) c.settings.target.0 f.bytes ecn u))

-- 9: the verdict would be enqueued or marked, and the link that `freed` follows is one to no slot
abbrev pub freed_refused : Common → (sizes : List ℕ) → Verdict → Bool
freed_refused c sizes v = admitted v && link_refused c.settings.slots sizes c.store.freed c.store.spare

-- 29: those that are tested for before the verdict
abbrev pub before_verdict : State → (handles_length sizes_length clock size : ℕ) → List (ℕ × Bool)
before_verdict s handles_length sizes_length clock size =
    (2, state_refused s)
    ∷ (3, tables_refused s.common handles_length sizes_length)
    ∷ (4, clock_refused s.common clock)
    ∷ (7, size_refused size)
    ∷ (8, counts_refused s.common)
    ∷ []

-- 29
abbrev pub arrival_refusals :
    State → (handles_length : ℕ) (sizes : List ℕ) (clock : ℕ) (key : List ℕ) (size : ℕ) (ecn : Bool) (u : ℕ) → List (ℕ × Bool)
arrival_refusals s handles_length sizes clock key size ecn u =
    before_verdict s handles_length (length sizes) clock size
    ++ (9, freed_refused s.common sizes (verdict_of s.common (flow_at s.flows (flow_number s key)) size ecn u))
    ∷ []

unfoldable pub arrival_refusal :
    State → (handles_length : ℕ) (sizes : List ℕ) (clock : ℕ) (key : List ℕ) (size : ℕ) (ecn : Bool) (u : ℕ) → ℕ
arrival_refusal s handles_length sizes clock key size ecn u =
    first_refusal (arrival_refusals s handles_length sizes clock key size ecn u)

-- the accumulated probability of the flow moves on (Q-3); probability, delays and allowance don't change
abbrev pub arrived_pie : (target : ℕ) → Flow → Verdict → Pie
arrived_pie target f v =
    let pie = pie_of f in
    record {
      prob = pie.prob;
      old = pie.old;
      allowance = pie.allowance;
      accumulated = prob (accumulated_after pie target f.bytes v);
      rate = pie.rate;
    }

-- the flow: an enqueued or marked packet goes to its tail, at this place
unfoldable pub arrived_flow : (target : ℕ) → Flow → (size place : ℕ) → Verdict → Flow
arrived_flow target f size place v =
    flow_with f
    (arrived_pie target f v)
    (cond (admitted v) (entered (backlog_of f) size) (backlog_of f))
    (cond (admitted v) (ends_after_put (ends_of f) f.count place) (ends_of f))

-- both totals grow; the verdict's count rises by one
unfoldable pub arrived_common : Common → (sizes : List ℕ) (clock size : ℕ) → Verdict → Common
arrived_common c sizes clock size v =
    record {
      settings = c.settings;
      clock = micros clock;
      last = c.last;
      backlog = cond (admitted v) (entered c.backlog size) c.backlog;
      store = cond (admitted v) (store_after_put c.store sizes) c.store;
      verdicts = raised c.verdicts v;
    }

-- a flow in neither list enters the new one (crate schedule: Entering, and Ring for the places); a listed flow, even an empty one,
-- keeps its place and deficit; a dropped packet moves nothing
unfoldable pub arrived_schedule : Schedule → (flow : ℕ) → Verdict → Schedule
arrived_schedule s flow v = cond (admitted v && not (is_listed (two_lists s) flow)) (entered_in s flow) s

-- an arrival that no test refuses
abbrev pub accepted_arrival : State → (sizes : List ℕ) (clock : ℕ) (key : List ℕ) (size : ℕ) (ecn : Bool) (u : ℕ) → Reply
accepted_arrival s sizes clock key size ecn u =
    let flow = flow_number s key in
    let f = flow_at s.flows flow in
    let v = verdict_of s.common f size ecn u in
    record {
      answer = verdict v;
      state =
          record {
            common = arrived_common s.common sizes clock size v;
            schedule = arrived_schedule s.schedule flow v;
            flows = set s.flows flow (arrived_flow s.common.settings.target.0 f size (free_place s.common.store) v);
          };
    }

unfoldable pub arrival :
    State → (handles sizes : List ℕ) (clock : ℕ) (key : List ℕ) (size : ℕ) (ecn : Bool) (u : ℕ) → Reply
arrival s handles sizes clock key size ecn u =
    unless_refused (arrival_refusal s (length handles) sizes clock key size ecn u) s (accepted_arrival s sizes clock key size ecn u)

-- the tables after an arrival that was so answered: only an admitted one writes
abbrev pub arrived_handles : State → Answer → (handles : List ℕ) (handle : ℕ) → List ℕ
arrived_handles s a handles handle = cond (admits a) (handles_after_put handles (free_place s.common.store) handle) handles

abbrev pub arrived_sizes : State → Answer → (sizes key : List ℕ) (size : ℕ) → List ℕ
arrived_sizes s a sizes key size =
    let f = flow_at s.flows (flow_number s key) in
    cond (admits a) (sizes_after_put (ends_of f) f.count sizes (free_place s.common.store) size) sizes
