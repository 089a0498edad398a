-- The ring queue by the rules before profiles (document 01, with the tickets before Q-12): its record has no profile, and it is neither
-- active nor inactive. What other crates define and Q-12 did not change is cited.
use Rattle.std.specs.Prelude.{Bool, not, cond, ◌&&◌, ◌||◌, List, [], ◌∷◌, ◌++◌, ℕ, zero, suc, ◌+◌, ◌-◌, ◌*◌, ◌%◌, eqb, leb, ltb, pos, ◌+ℤ◌, get_or, length, set}
use Rattle.laws.specs.Tests.{all}
use Rattle.units.specs.Kinds.{bytes, micros, none, prob, whole}
use Rattle.units.specs.declared.Bytes.{Bytes}
use Rattle.units.specs.declared.Micros.{Micros}
use Rattle.pie.specs.Backlog.{entered, left}
use Rattle.pie.specs.Constants.{full_allowance, largest, latest, longest, most_accumulated, most_verdicts, period, threshold}
use Rattle.pie.specs.DepartureRate.{resting}
use Rattle.pie.specs.DropDecision.{accumulated_after, drop_decision}
use Rattle.pie.specs.Update.{decayed, delay_of, divisor_of, error_of, idle, limited, next_allowance, step_of}
use Rattle.pie.specs.Verdicts.{admitted, raised, total}
use Rattle.pie.specs.declared.Backlog.{Backlog}
use Rattle.pie.specs.declared.Pie.{Pie}
use Rattle.pie.specs.declared.Verdict.{Verdict}
use Rattle.pie.specs.declared.Verdict.TheVariants.{DroppedBytes, DroppedSlots}
use Rattle.refusals.specs.Rows.{first_refusal}
use Rattle.refusals.specs.Tests.{head_refused, size_refused}
use Rattle.refusals.specs.Answer.{Answer, departed, refused, ticked, verdict}
use Rattle.ring.specs.Departure.{departed_pie}
use Rattle.ring.specs.Calls.{Call, arrive, depart, update}

-- ── the state record ──

pub record Settings : Type 0 where
  pub target : Micros
  pub buffer : Bytes
  pub slots : ℕ

pub record State : Type 0 where
  pub settings : Settings
  pub clock : Micros
  pub last : Micros
  pub pie : Pie
  pub backlog : Backlog
  pub first : ℕ
  pub verdicts : List ℕ

abbrev pub settings_conditions : Settings → List Bool
settings_conditions s =
    leb 1000 s.target.0
    ∷ leb s.target.0 100000
    ∷ leb 1 s.buffer.0
    ∷ leb s.buffer.0 16777216
    ∷ leb 1 s.slots
    ∷ leb s.slots 65536
    ∷ []

abbrev pub state_conditions : State → List Bool
state_conditions s =
    leb s.last.0 s.clock.0
    ∷ leb s.clock.0 latest
    ∷ leb s.pie.prob.0 whole
    ∷ leb s.pie.old.0 longest
    ∷ leb s.pie.allowance.0 full_allowance
    ∷ ltb s.pie.accumulated.0 most_accumulated
    ∷ leb s.pie.rate.average.0 longest
    ∷ ltb s.first s.settings.slots
    ∷ leb s.backlog.count s.settings.slots
    ∷ leb s.backlog.count s.backlog.bytes.0
    ∷ leb s.backlog.bytes.0 (largest * s.backlog.count)
    ∷ leb s.backlog.bytes.0 s.settings.buffer.0
    ∷ leb s.pie.rate.start.0 s.clock.0
    ∷ ltb s.pie.rate.counted.0 threshold
    ∷ (s.pie.rate.measuring || eqb s.pie.rate.start.0 0)
    ∷ (s.pie.rate.measuring || eqb s.pie.rate.counted.0 0)
    ∷ not (s.pie.rate.measuring && eqb s.backlog.count 0)
    ∷ leb (total s.verdicts) most_verdicts
    ∷ []

unfoldable pub well_formed : State → Bool
well_formed s = all (settings_conditions s.settings ++ state_conditions s)

abbrev pub fresh_state : Settings → (clock : ℕ) → State
fresh_state settings clock =
    record {
      settings = settings;
      clock = micros clock;
      last = micros clock;
      pie = record { prob = prob none; old = micros 0; allowance = micros full_allowance; accumulated = prob none; rate = resting 0 };
      backlog = record { count = 0; bytes = bytes 0 };
      first = 0;
      verdicts = 0 ∷ 0 ∷ 0 ∷ 0 ∷ 0 ∷ [];
    }

-- ── refusals 1 to 9 ──

abbrev pub settings_refused : Settings → (clock : ℕ) → Bool
settings_refused s clock = not (all (settings_conditions s) && leb clock latest)

abbrev pub tables_refused : State → (handles_length sizes_length : ℕ) → Bool
tables_refused s handles_length sizes_length = not (eqb handles_length s.settings.slots && eqb sizes_length s.settings.slots)

abbrev pub clock_refused : State → (clock : ℕ) → Bool
clock_refused s clock = ltb clock s.clock.0 || ltb latest clock

-- the head's entry in a table
abbrev pub head_of : State → (table : List ℕ) → ℕ
head_of s table = get_or table s.first 0

abbrev pub rows_of : State → Call → List (ℕ × Bool)
rows_of s (arrive handles sizes clock handle size ecn u) =
    (2, not (well_formed s))
    ∷ (3, tables_refused s (length handles) (length sizes))
    ∷ (4, clock_refused s clock)
    ∷ (7, size_refused size)
    ∷ (8, eqb (total s.verdicts) most_verdicts)
    ∷ []
rows_of s (depart handles sizes clock) =
    (2, not (well_formed s))
    ∷ (3, tables_refused s (length handles) (length sizes))
    ∷ (4, clock_refused s clock)
    ∷ (6, eqb s.backlog.count 0)
    ∷ (9, head_refused s.backlog (head_of s sizes))
    ∷ []
rows_of s (update clock) =
    (2, not (well_formed s))
    ∷ (4, clock_refused s clock)
    ∷ (5, ltb clock (s.last.0 + period))
    ∷ []

-- ── an arrival: rules 1 to 7 ──

abbrev pub verdict_of : State → (size : ℕ) (ecn : Bool) (u : ℕ) → Verdict
verdict_of s size ecn u =
    cond (ltb s.settings.buffer.0 (s.backlog.bytes.0 + size)) DroppedBytes
    (cond (eqb s.backlog.count s.settings.slots) DroppedSlots
    (drop_decision s.pie s.settings.target.0 s.backlog.bytes.0 ecn u))

abbrev pub arrived_state : State → (clock size : ℕ) → Verdict → State
arrived_state s clock size v =
    let pie = s.pie in
    record {
      settings = s.settings;
      clock = micros clock;
      last = s.last;
      pie =
          record {
            prob = pie.prob;
            old = pie.old;
            allowance = pie.allowance;
            accumulated = prob (accumulated_after pie s.settings.target.0 s.backlog.bytes.0 v);
            rate = pie.rate;
          };
      backlog = cond (admitted v) (entered s.backlog size) s.backlog;
      first = s.first;
      verdicts = raised s.verdicts v;
    }

-- ── a departure ──

abbrev pub departed_state : State → (clock size : ℕ) → State
departed_state s clock size =
    record {
      settings = s.settings;
      clock = micros clock;
      last = s.last;
      pie = departed_pie s.pie clock size (s.backlog.count - 1) (s.backlog.bytes.0 - size);
      backlog = left s.backlog size;
      first = (s.first + 1) % s.settings.slots;
      verdicts = s.verdicts;
    }

-- ── a tick: rules 1 to 9 ──

abbrev pub next_prob : (p delay old target : ℕ) → ℕ
next_prob p delay old target =
    limited (decayed (idle delay old) (pos p +ℤ step_of (error_of delay old target) (divisor_of p)))

abbrev pub updated : Pie → (target bytes : ℕ) → Pie
updated pie target bytes =
    let old = pie.old.0 in
    let delay = delay_of bytes pie.rate.average.0 in
    let p = next_prob pie.prob.0 delay old target in
    record {
      prob = prob p;
      old = micros delay;
      allowance = micros (next_allowance pie.allowance.0 p delay old target);
      accumulated = pie.accumulated;
      rate = pie.rate;
    }

abbrev pub ticked_state : State → (clock : ℕ) → State
ticked_state s clock =
    record {
      settings = s.settings;
      clock = micros clock;
      last = micros clock;
      pie = updated s.pie s.settings.target.0 s.backlog.bytes.0;
      backlog = s.backlog;
      first = s.first;
      verdicts = s.verdicts;
    }

-- ── a call ──

-- the answer, the state that is returned, and the tables that were lent as the call leaves them (none to a tick)
pub record Outcome : Type 0 where
  pub answer : Answer
  pub state : State
  pub handles : List ℕ
  pub sizes : List ℕ

-- an admitted packet is stored at the tail
abbrev pub stored : State → Verdict → (table : List ℕ) (element : ℕ) → List ℕ
stored s v table element = cond (admitted v) (set table ((s.first + s.backlog.count) % s.settings.slots) element) table

abbrev pub accepted : State → Call → Outcome
accepted s (arrive handles sizes clock handle size ecn u) =
    let v = verdict_of s size ecn u in
    record {
      answer = verdict v;
      state = arrived_state s clock size v;
      handles = stored s v handles handle;
      sizes = stored s v sizes size;
    }
accepted s (depart handles sizes clock) =
    record {
      answer = departed (head_of s handles) (head_of s sizes);
      state = departed_state s clock (head_of s sizes);
      handles = handles;
      sizes = sizes;
    }
accepted s (update clock) = record { answer = ticked; state = ticked_state s clock; handles = []; sizes = [] }

-- a refused call changes nothing
abbrev pub unchanged : State → (number : ℕ) → Call → Outcome
unchanged s number (arrive handles sizes clock handle size ecn u) =
    record { answer = refused number; state = s; handles = handles; sizes = sizes }
unchanged s number (depart handles sizes clock) = record { answer = refused number; state = s; handles = handles; sizes = sizes }
unchanged s number (update clock) = record { answer = refused number; state = s; handles = []; sizes = [] }

-- the first row whose test holds refuses
abbrev pub unless_refused : (number : ℕ) → State → Call → Outcome
unless_refused zero s c = accepted s c
unless_refused (suc n) s c = unchanged s (suc n) c

abbrev pub outcome : State → Call → Outcome
outcome s c = unless_refused (first_refusal (rows_of s c)) s c
