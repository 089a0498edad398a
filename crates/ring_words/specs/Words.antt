-- The state record as twenty-three words, in the order of struct obikuteru_state.
use Rattle.std.specs.Prelude.{List, [], ◌∷◌, ℕ, ◌+◌, get_or, set}
use Rattle.units.specs.Kinds.{micros}
use Rattle.pie.specs.Constants.{full_allowance}
use Rattle.pie.specs.declared.Verdict.{Verdict}
use Rattle.pie.specs.Verdicts.{place_of}
use Rattle.pie_words.specs.Flags.{flag_word, is_set}
use Rattle.pie_words.specs.Words.{backlog_at, pie_at, pie_words}
use Rattle.ring.specs.declared.State.{State}
use Rattle.ring.specs.Fresh.{settings_of}

-- the state that twenty-three words hold
unfoldable pub state_of : (words : List ℕ) → State
state_of w =
    record {
      settings = settings_of (get_or w 0 0) (get_or w 1 0) (get_or w 2 0) (get_or w 21 0);
      clock = micros (get_or w 3 0);
      last = micros (get_or w 4 0);
      pie = pie_at w 5;
      backlog = backlog_at w 5;
      first = get_or w 15 0;
      verdicts = get_or w 16 0 ∷ get_or w 17 0 ∷ get_or w 18 0 ∷ get_or w 19 0 ∷ get_or w 20 0 ∷ [];
      active = is_set (get_or w 22 0);
    }

-- the twenty-three words of a state, written over these
unfoldable pub state_words : (words : List ℕ) → State → List ℕ
state_words w s =
    s.settings.target.0
    ∷ s.settings.buffer.0
    ∷ s.settings.slots
    ∷ s.clock.0
    ∷ s.last.0
    ∷ pie_words w 5 s.pie s.backlog (
    s.first
    ∷ get_or s.verdicts 0 0
    ∷ get_or s.verdicts 1 0
    ∷ get_or s.verdicts 2 0
    ∷ get_or s.verdicts 3 0
    ∷ get_or s.verdicts 4 0
    ∷ s.settings.profile
    ∷ flag_word (get_or w 22 0) s.active
    ∷ []
    )

-- the words that turning active changes, but for the accumulated probability, which `arrival_words` has
abbrev pub restarted_words : (words : List ℕ) → List ℕ
restarted_words w =
    let controlled = set (set (set w 5 0) 6 0) 7 full_allowance in
    let rated = set (set (set (set controlled 9 0) 10 0) 11 0) 12 0 in
    set rated 22 1

-- the words that an arrival with this verdict changes beside those: clock, accumulated probability, count, bytes and the verdict's count
abbrev pub arrival_words : (words : List ℕ) → State → Verdict → List ℕ
arrival_words w s v =
    let early = set (set w 3 s.clock.0) 8 s.pie.accumulated.0 in
    let next = set (set early 13 s.backlog.count) 14 s.backlog.bytes.0 in
    set next (16 + place_of v) (get_or next (16 + place_of v) 0 + 1)
