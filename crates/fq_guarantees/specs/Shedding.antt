-- Each of 64 flows as a kind of queue that sheds load by PIE (crate pie_guarantees): what is read of records, calls and answers. It is
-- plain: never calm, always active.
use Rattle.std.specs.Prelude.{◌≡◌, Bool, true, false, cond, ℕ, eqb}
use Rattle.laws.specs.Tests.{all}
use Rattle.pie_guarantees.specs.Shedding.{Shedding, Told, decided, nothing}
use Rattle.pie_guarantees.specs.Shedding as told
use Rattle.fq_state.specs.Flow.{pie_of}
use Rattle.fq_state.specs.State.{State, flow_at}
use Rattle.fq_state.specs.WellFormed.{flow_conditions, settings_conditions}
use Rattle.fq_state.specs.declared.Flow.{Flow}
use Rattle.fq_rules.specs.Answer.{Answer, departed, refused, ticked, verdict}
use Rattle.fq_rules.specs.Arrival.{bytes_full, slots_full}
use Rattle.fq_guarantees.specs.Calls.{Call, arrive, depart, update}
use Rattle.fq_guarantees.specs.Lists.{Answered, fq_calls}

-- what an answer tells of the flow f: an arrival whose flow it is, a departure that is answered f, and every tick; nothing by any other
abbrev pub told_of : (f key_flow : ℕ) → Answer → Told
told_of f key_flow (refused number) = nothing
told_of f key_flow (verdict v) = cond (eqb key_flow f) (decided v) nothing
told_of f key_flow (departed flow handle size) = cond (eqb flow f) (told.departed size) nothing
told_of f key_flow ticked = told.ticked

abbrev pub tells : (f : ℕ) → Answered → Told
tells f a = told_of f a.key_flow a.answer

abbrev pub clock_in : Call → ℕ
clock_in (arrive handles sizes clock key handle size ecn u) = clock
clock_in (depart handles sizes clock) = clock
clock_in (update clock) = clock

-- what an arrival brings
abbrev pub size_in : Call → ℕ
size_in (arrive handles sizes clock key handle size ecn u) = size
size_in (depart handles sizes clock) = 0
size_in (update clock) = 0

abbrev pub ecn_in : Call → Bool
ecn_in (arrive handles sizes clock key handle size ecn u) = ecn
ecn_in (depart handles sizes clock) = false
ecn_in (update clock) = false

abbrev pub u_in : Call → ℕ
u_in (arrive handles sizes clock key handle size ecn u) = u
u_in (depart handles sizes clock) = 0
u_in (update clock) = 0

-- the flow of this number
abbrev pub own : (f : ℕ) → State → Flow
own f s = flow_at s.flows f

-- a flow alone is well formed if the settings pass their tests and it passes its own
abbrev pub Formed : (f : ℕ) → State → Type 0
Formed f s = (all (settings_conditions s.common.settings) ≡ true) × (all (flow_conditions s.common (own f s)) ≡ true)

abbrev pub flow_queue : (f : ℕ) → Shedding
flow_queue f =
    record {
      kind = fq_calls;
      pie = λ s. pie_of (own f s.state);
      target = λ s. s.state.common.settings.target.0;
      count = λ s. (own f s.state).count;
      bytes = λ s. (own f s.state).bytes;
      last = λ s. s.state.common.last.0;
      calm = λ s. false;
      active = λ s. true;
      begun = λ s. s;
      Formed = λ s. Formed f s.state;
      clock = clock_in;
      size = size_in;
      ecn = ecn_in;
      u = u_in;
      -- rules 1 and 2 read all flows together
      bytes_full = λ s c. bytes_full s.state.common (size_in c);
      slots_full = λ s c. slots_full s.state.common;
      tells = tells f;
    }
