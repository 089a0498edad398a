-- Either queue, over its own calls, as a kind of queue that sheds load by PIE (crate pie_guarantees): what is read of its states, calls and
-- answers. It is plain: never calm, always active.
use Rattle.std.specs.Prelude.{◌≡◌, Bool, true, false, ℕ}
use Rattle.laws.specs.Tests.{all}
use Rattle.pie_guarantees.specs.Shedding.{Shedding, Told, decided, nothing}
use Rattle.pie_guarantees.specs.Shedding as told
use Rattle.refusals.specs.Answer.{Answer, departed, made, refused, ticked, verdict}
use Rattle.ring.specs.Calls.{Call, arrive, depart, update}
use Rattle.pair_rules.specs.WellFormed.{queue_conditions}
use Rattle.pair_rules.specs.declared.State.{State}
use Rattle.pair_rules.specs.declared.Which.{Which}
use Rattle.pair_rules.specs.Arrival.{bytes_full, slots_full}
use Rattle.pair_guarantees.specs.Calls.{own_calls, records}

abbrev pub tells : Answer → Told
tells (refused number) = nothing
tells made = nothing
tells (verdict v) = decided v
tells (departed handle size) = told.departed size
tells ticked = told.ticked

abbrev pub clock_in : Call → ℕ
clock_in (arrive handles sizes clock handle size ecn u) = clock
clock_in (depart handles sizes clock) = clock
clock_in (update clock) = clock

-- what an arrival brings
abbrev pub size_in : Call → ℕ
size_in (arrive handles sizes clock handle size ecn u) = size
size_in (depart handles sizes clock) = 0
size_in (update clock) = 0

abbrev pub ecn_in : Call → Bool
ecn_in (arrive handles sizes clock handle size ecn u) = ecn
ecn_in (depart handles sizes clock) = false
ecn_in (update clock) = false

abbrev pub u_in : Call → ℕ
u_in (arrive handles sizes clock handle size ecn u) = u
u_in (depart handles sizes clock) = 0
u_in (update clock) = 0

-- a queue's state alone is well formed if it passes its tests beside some number of slots
abbrev pub Formed : State → Type 0
Formed s = (slots : ℕ) × (all (queue_conditions slots s) ≡ true)

abbrev pub queue_of : Which → Shedding
queue_of w =
    record {
      kind = own_calls w;
      pie = λ s. s.pie;
      target = λ s. s.settings.target.0;
      count = λ s. s.backlog.count;
      bytes = λ s. s.backlog.bytes.0;
      last = λ s. s.last.0;
      calm = λ s. false;
      active = λ s. true;
      begun = λ s. s;
      Formed = Formed;
      clock = λ c. clock_in c.call;
      size = λ c. size_in c.call;
      ecn = λ c. ecn_in c.call;
      u = λ c. u_in c.call;
      bytes_full = λ s c. bytes_full s (size_in c.call);
      -- rule 2 alone reads what is not the queue's own
      slots_full = λ s c. slots_full (records w s c) w;
      tells = tells;
    }
