-- The records as words: six in the order of struct obikuteru_shared, twenty-one in that of struct obikuteru_pair_queue.
use Rattle.std.specs.Prelude.{Bool, true, false, List, [], ◌∷◌, ℕ, get_or}
use Rattle.units.specs.Kinds.{micros}
use Rattle.pie_words.specs.Words.{backlog_at, pie_at, pie_words}
use Rattle.store.specs.declared.Ends.{Ends}
use Rattle.store.specs.declared.Store.{Store}
use Rattle.pair_rules.specs.Fresh.{settings_of}
use Rattle.pair_rules.specs.Queues.{paired}
use Rattle.pair_rules.specs.declared.Pair.{Pair}
use Rattle.pair_rules.specs.declared.Shared.{Shared}
use Rattle.pair_rules.specs.declared.State.{State}
use Rattle.pair_rules.specs.declared.Which.{Which}
use Rattle.pair_rules.specs.declared.Which.TheVariants.{Intercom, Passengers}

-- the queue that a call names by `second`
abbrev pub which_of : (second : Bool) → Which
which_of false = Intercom
which_of true = Passengers

-- ── the shared record ──

abbrev pub store_of : (words : List ℕ) → Store
store_of w = record { used = get_or w 3 0; freed = get_or w 4 0; spare = get_or w 5 0 }

-- the record that six words hold
unfoldable pub shared_of : (words : List ℕ) → Shared
shared_of w =
    record {
      slots = get_or w 0 0;
      reserves = record { intercom = get_or w 1 0; passengers = get_or w 2 0 };
      store = store_of w;
    }

-- its six words: words and record determine each other
unfoldable pub shared_words : Shared → List ℕ
shared_words s =
    s.slots
    ∷ s.reserves.intercom
    ∷ s.reserves.passengers
    ∷ s.store.used
    ∷ s.store.freed
    ∷ s.store.spare
    ∷ []

-- ── a queue ──

abbrev pub ends_of : (words : List ℕ) → Ends
ends_of w = record { head = get_or w 14 0; tail = get_or w 15 0 }

-- the state that twenty-one words hold
unfoldable pub state_of : (words : List ℕ) → State
state_of w =
    record {
      settings = settings_of (get_or w 0 0) (get_or w 1 0);
      clock = micros (get_or w 2 0);
      last = micros (get_or w 3 0);
      pie = pie_at w 4;
      backlog = backlog_at w 4;
      ends = ends_of w;
      verdicts = get_or w 16 0 ∷ get_or w 17 0 ∷ get_or w 18 0 ∷ get_or w 19 0 ∷ get_or w 20 0 ∷ [];
    }

-- the twenty-one words of a state, written over these
unfoldable pub state_words : (words : List ℕ) → State → List ℕ
state_words w s =
    s.settings.target.0
    ∷ s.settings.buffer.0
    ∷ s.clock.0
    ∷ s.last.0
    ∷ pie_words w 4 s.pie s.backlog (
    s.ends.head
    ∷ s.ends.tail
    ∷ get_or s.verdicts 0 0
    ∷ get_or s.verdicts 1 0
    ∷ get_or s.verdicts 2 0
    ∷ get_or s.verdicts 3 0
    ∷ get_or s.verdicts 4 0
    ∷ []
    )

-- ── all three ──

-- the records that the words hold: the shared one, the called queue's and the other one's
abbrev pub records_of : Which → (shared own other : List ℕ) → Pair
records_of w shared own other = paired w (shared_of shared) (state_of own) (state_of other)

abbrev pub pair_of : (second : Bool) (shared own other : List ℕ) → Pair
pair_of second shared own other = records_of (which_of second) shared own other
