-- 16, 17: an arrival is document 01's on the called queue, with rule 2 by reserves and common slots, and the store for places and tables.
use Rattle.std.specs.Prelude.{Bool, cond, ◌&&◌, List, [], ◌∷◌, ℕ, ◌+◌, leb, ltb, eqb, length}
use Rattle.units.specs.Kinds.{micros, prob}
use Rattle.pie.specs.Backlog.{entered}
use Rattle.pie.specs.DropDecision.{accumulated_after, drop_decision}
use Rattle.pie.specs.Verdicts.{admitted, raised}
use Rattle.pie.specs.declared.Pie.{Pie}
use Rattle.pie.specs.declared.Verdict.{Verdict}
use Rattle.pie.specs.declared.Verdict.TheVariants.{DroppedBytes, DroppedSlots}
use Rattle.refusals.specs.Answer.{Answer, admits, verdict}
use Rattle.refusals.specs.Rows.{first_refusal}
use Rattle.refusals.specs.Tests.{size_refused}
use Rattle.store.specs.Following.{link_refused}
use Rattle.store.specs.Put.{ends_after_put, free_place, handles_after_put, sizes_after_put, store_after_put}
use Rattle.store.specs.declared.Store.{Store}
use Rattle.pair_rules.specs.Answer.{Reply}
use Rattle.pair_rules.specs.Answer.{unless_refused}
use Rattle.pair_rules.specs.Queues.{common_slots, common_use, other, own, paired, reserve_of, storing}
use Rattle.pair_rules.specs.Refusals.{clock_refused, counts_refused, pair_refused, tables_refused}
use Rattle.pair_rules.specs.declared.Pair.{Pair}
use Rattle.pair_rules.specs.declared.Shared.{Shared}
use Rattle.pair_rules.specs.declared.State.{State}
use Rattle.pair_rules.specs.declared.Which.{Which}

-- rule 1
abbrev pub bytes_full : State → (size : ℕ) → Bool
bytes_full s size = ltb s.settings.buffer.0 (s.backlog.bytes.0 + size)

-- rule 2 (16): the queue's count is at or above its reserve, and common use equals the common slots
abbrev pub slots_full : Pair → Which → Bool
slots_full p w = leb (reserve_of w p.shared) (own w p).backlog.count && eqb (common_use p) (common_slots p.shared)

-- rules 1 to 7: the first that holds decides; all but rule 2 read the called queue's state alone
unfoldable pub verdict_of : Pair → Which → (size : ℕ) (ecn : Bool) (u : ℕ) → Verdict
verdict_of p w size ecn u =
    let s = own w p in
    cond (bytes_full s size) DroppedBytes
    (cond (slots_full p w) DroppedSlots
    (drop_decision s.pie s.settings.target.0 s.backlog.bytes.0 ecn u))

-- 9: the verdict would be enqueued or marked, and the link that `freed` follows is one to no slot
abbrev pub freed_refused : Shared → (sizes : List ℕ) → Verdict → Bool
freed_refused s sizes v = admitted v && link_refused s.slots sizes s.store.freed s.store.spare

abbrev pub arrival_refusals :
    Pair → Which → (handles_length : ℕ) (sizes : List ℕ) (clock size : ℕ) (ecn : Bool) (u : ℕ) → List (ℕ × Bool)
arrival_refusals p w handles_length sizes clock size ecn u =
    (2, pair_refused p)
    ∷ (3, tables_refused p.shared handles_length (length sizes))
    ∷ (4, clock_refused (own w p) clock)
    ∷ (7, size_refused size)
    ∷ (8, counts_refused (own w p))
    ∷ (9, freed_refused p.shared sizes (verdict_of p w size ecn u))
    ∷ []

unfoldable pub arrival_refusal :
    Pair → Which → (handles_length : ℕ) (sizes : List ℕ) (clock size : ℕ) (ecn : Bool) (u : ℕ) → ℕ
arrival_refusal p w handles_length sizes clock size ecn u = first_refusal (arrival_refusals p w handles_length sizes clock size ecn u)

-- the accumulated probability moves on (Q-3); probability, delays and allowance don't change
abbrev pub arrived_pie : State → Verdict → Pie
arrived_pie s v =
    let pie = s.pie in
    record {
      prob = pie.prob;
      old = pie.old;
      allowance = pie.allowance;
      accumulated = prob (accumulated_after pie s.settings.target.0 s.backlog.bytes.0 v);
      rate = pie.rate;
    }

-- the called queue: enqueued and marked packets go to the tail, at this place; the verdict's count rises by one; the rest stays
unfoldable pub arrived_state : State → (clock size place : ℕ) → Verdict → State
arrived_state s clock size place v =
    record {
      settings = s.settings;
      clock = micros clock;
      last = s.last;
      pie = arrived_pie s v;
      backlog = cond (admitted v) (entered s.backlog size) s.backlog;
      ends = cond (admitted v) (ends_after_put s.ends s.backlog.count place) s.ends;
      verdicts = raised s.verdicts v;
    }

-- the store: an admitted packet takes a slot
unfoldable pub arrived_store : Store → (sizes : List ℕ) → Verdict → Store
arrived_store s sizes v = cond (admitted v) (store_after_put s sizes) s

unfoldable pub arrival : Pair → Which → (handles sizes : List ℕ) (clock size : ℕ) (ecn : Bool) (u : ℕ) → Reply
arrival p w handles sizes clock size ecn u =
    let v = verdict_of p w size ecn u in
    unless_refused (arrival_refusal p w (length handles) sizes clock size ecn u) p
    (record {
      answer = verdict v;
      pair =
          paired w
          (storing p.shared (arrived_store p.shared.store sizes v))
          (arrived_state (own w p) clock size (free_place p.shared.store) v)
          (other w p);
    })

-- the tables after an arrival that was so answered: only an admitted one writes
abbrev pub arrived_handles : Pair → Answer → (handles : List ℕ) (handle : ℕ) → List ℕ
arrived_handles p a handles handle = cond (admits a) (handles_after_put handles (free_place p.shared.store) handle) handles

abbrev pub arrived_sizes : Pair → Which → Answer → (sizes : List ℕ) (size : ℕ) → List ℕ
arrived_sizes p w a sizes size =
    let s = own w p in
    cond (admits a) (sizes_after_put s.ends s.backlog.count sizes (free_place p.shared.store) size) sizes
