-- 17: a departure is document 01's on the called queue, with the store for places and tables. It writes to no element of the handles.
use Rattle.std.specs.Prelude.{Bool, cond, ◌||◌, List, [], ◌∷◌, ℕ, ◌-◌, get_or, length}
use Rattle.units.specs.Kinds.{micros}
use Rattle.pie.specs.Backlog.{left}
use Rattle.refusals.specs.Answer.{Answer, departed}
use Rattle.ring.specs.Departure.{departed_pie}
use Rattle.refusals.specs.Rows.{first_refusal}
use Rattle.refusals.specs.Tests.{head_refused}
use Rattle.store.specs.Following.{link_refused}
use Rattle.store.specs.Take.{ends_after_take, sizes_after_take, store_after_take}
use Rattle.store.specs.Words.{size_at}
use Rattle.pair_rules.specs.Answer.{Reply}
use Rattle.pair_rules.specs.Answer.{departs, unless_refused}
use Rattle.pair_rules.specs.Queues.{other, own, paired, storing}
use Rattle.pair_rules.specs.Refusals.{clock_refused, empty_refused, pair_refused, tables_refused}
use Rattle.pair_rules.specs.declared.Pair.{Pair}
use Rattle.pair_rules.specs.declared.State.{State}
use Rattle.pair_rules.specs.declared.Which.{Which}

-- the head's packet
abbrev pub head_handle : State → (handles : List ℕ) → ℕ
head_handle s handles = get_or handles s.ends.head 0

abbrev pub head_size : State → (sizes : List ℕ) → ℕ
head_size s sizes = size_at sizes s.ends.head

-- 9: removing a head of this size would break the backlog, or its link, where it is followed, is one to no slot
abbrev pub head_word_refused : (slots : ℕ) → State → (sizes : List ℕ) → Bool
head_word_refused slots s sizes =
    head_refused s.backlog (head_size s sizes) || link_refused slots sizes s.ends.head s.backlog.count

abbrev pub departure_refusals : Pair → Which → (handles_length : ℕ) (sizes : List ℕ) (clock : ℕ) → List (ℕ × Bool)
departure_refusals p w handles_length sizes clock =
    (2, pair_refused p)
    ∷ (3, tables_refused p.shared handles_length (length sizes))
    ∷ (4, clock_refused (own w p) clock)
    ∷ (6, empty_refused (own w p))
    ∷ (9, head_word_refused p.shared.slots (own w p) sizes)
    ∷ []

unfoldable pub departure_refusal : Pair → Which → (handles_length : ℕ) (sizes : List ℕ) (clock : ℕ) → ℕ
departure_refusal p w handles_length sizes clock = first_refusal (departure_refusals p w handles_length sizes clock)

-- the called queue: the head, of this size, leaves
unfoldable pub departed_state : State → (sizes : List ℕ) (clock size : ℕ) → State
departed_state s sizes clock size =
    record {
      settings = s.settings;
      clock = micros clock;
      last = s.last;
      pie = departed_pie s.pie clock size (s.backlog.count - 1) (s.backlog.bytes.0 - size);
      backlog = left s.backlog size;
      ends = ends_after_take s.ends s.backlog.count sizes;
      verdicts = s.verdicts;
    }

unfoldable pub departure : Pair → Which → (handles sizes : List ℕ) (clock : ℕ) → Reply
departure p w handles sizes clock =
    let s = own w p in
    unless_refused (departure_refusal p w (length handles) sizes clock) p
    (record {
      answer = departed (head_handle s handles) (head_size s sizes);
      pair =
          paired w
          (storing p.shared (store_after_take p.shared.store s.ends.head))
          (departed_state s sizes clock (head_size s sizes))
          (other w p);
    })

-- the sizes after a departure that was so answered: an accepted one writes exactly one element
abbrev pub departed_sizes : Pair → Which → Answer → (sizes : List ℕ) → List ℕ
departed_sizes p w a sizes = cond (departs a) (sizes_after_take sizes (own w p).ends.head p.shared.store.freed) sizes
