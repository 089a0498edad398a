-- 27: a departure chooses a flow, and the packet at the head of its chain leaves.
use Rattle.std.specs.Prelude.{Bool, cond, ◌||◌, List, [], ◌∷◌, ◌++◌, ℕ, ◌-◌, get_or, length, set}
use Rattle.units.specs.Kinds.{micros}
use Rattle.pie.specs.Backlog.{left}
use Rattle.pie.specs.DepartureRate.{rate_after}
use Rattle.pie.specs.declared.Pie.{Pie}
use Rattle.refusals.specs.Rows.{first_refusal}
use Rattle.refusals.specs.Tests.{head_refused}
use Rattle.schedule.specs.Choosing.{Choice, choose}
use Rattle.schedule.specs.Ring.{charged_in, chosen_in, two_lists}
use Rattle.store.specs.Following.{link_refused}
use Rattle.store.specs.Take.{ends_after_take, sizes_after_take, store_after_take}
use Rattle.store.specs.Words.{size_at}
use Rattle.fq_state.specs.Flow.{backlog_of, ends_of, flow_with, pie_of}
use Rattle.fq_state.specs.State.{State, counts_of, flow_at}
use Rattle.fq_state.specs.declared.Common.{Common}
use Rattle.fq_state.specs.declared.Flow.{Flow}
use Rattle.fq_rules.specs.Answer.{Answer, Reply, departed, departs, unless_refused}
use Rattle.fq_rules.specs.Refusals.{clock_refused, empty_refused, state_refused, tables_refused}

-- 26: the flow that is served, the lists and deficits after the moves, and the moves: chosen on the new and the old list
abbrev pub choice_of : State → Choice
choice_of s = choose (counts_of s.flows) (two_lists s.schedule)

abbrev pub served_flow : State → Flow
served_flow s = flow_at s.flows (choice_of s).flow

-- the head's packet
abbrev pub head_handle : Flow → (handles : List ℕ) → ℕ
head_handle f handles = get_or handles f.head 0

abbrev pub head_size : Flow → (sizes : List ℕ) → ℕ
head_size f sizes = size_at sizes f.head

-- 9: removing a head of this size would break the flow's backlog, or its link, where it is followed, is one to no slot
abbrev pub head_word_refused : (slots : ℕ) → Flow → (sizes : List ℕ) → Bool
head_word_refused slots f sizes = head_refused (backlog_of f) (head_size f sizes) || link_refused slots sizes f.head f.count

-- 29: those that are tested for before the choosing
abbrev pub before_choosing : State → (handles_length sizes_length clock : ℕ) → List (ℕ × Bool)
before_choosing s handles_length sizes_length clock =
    (2, state_refused s)
    ∷ (3, tables_refused s.common handles_length sizes_length)
    ∷ (4, clock_refused s.common clock)
    ∷ (6, empty_refused s.common)
    ∷ []

-- 29
abbrev pub departure_refusals : State → (handles_length : ℕ) (sizes : List ℕ) (clock : ℕ) → List (ℕ × Bool)
departure_refusals s handles_length sizes clock =
    before_choosing s handles_length (length sizes) clock
    ++ (9, head_word_refused s.common.settings.slots (served_flow s) sizes)
    ∷ []

unfoldable pub departure_refusal : State → (handles_length : ℕ) (sizes : List ℕ) (clock : ℕ) → ℕ
departure_refusal s handles_length sizes clock = first_refusal (departure_refusals s handles_length sizes clock)

-- the flow's rate goes on with its own bytes and count left
abbrev pub departed_pie : Flow → (clock size : ℕ) → Pie
departed_pie f clock size =
    let pie = pie_of f in
    record {
      prob = pie.prob;
      old = pie.old;
      allowance = pie.allowance;
      accumulated = pie.accumulated;
      rate = rate_after pie.rate clock size (f.count - 1) (f.bytes - size);
    }

unfoldable pub departed_flow : Flow → (sizes : List ℕ) (clock size : ℕ) → Flow
departed_flow f sizes clock size =
    flow_with f (departed_pie f clock size) (left (backlog_of f) size) (ends_after_take (ends_of f) f.count sizes)

-- both totals fall
unfoldable pub departed_common : Common → (place clock size : ℕ) → Common
departed_common c place clock size =
    record {
      settings = c.settings;
      clock = micros clock;
      last = c.last;
      backlog = left c.backlog size;
      store = store_after_take c.store place;
      verdicts = c.verdicts;
    }

-- a departure that no test refuses
abbrev pub accepted_departure : State → (handles sizes : List ℕ) (clock : ℕ) → Reply
accepted_departure s handles sizes clock =
    let c = choice_of s in
    let f = served_flow s in
    let size = head_size f sizes in
    record {
      answer = departed c.flow (head_handle f handles) size;
      state =
          record {
            common = departed_common s.common f.head clock size;
            schedule = charged_in (chosen_in s.schedule c) c.flow size;
            flows = set s.flows c.flow (departed_flow f sizes clock size);
          };
    }

unfoldable pub departure : State → (handles sizes : List ℕ) (clock : ℕ) → Reply
departure s handles sizes clock =
    unless_refused (departure_refusal s (length handles) sizes clock) s (accepted_departure s handles sizes clock)

-- the sizes after a departure that was so answered: an accepted one writes exactly one element
abbrev pub departed_sizes : State → Answer → (sizes : List ℕ) → List ℕ
departed_sizes s a sizes = cond (departs a) (sizes_after_take sizes (served_flow s).head s.common.store.freed) sizes
