-- The state record of a flow as sixteen words, in the order of struct obikuteru_modem_state.
use Rattle.std.specs.Prelude.{List, [], ◌∷◌, ℕ, get_or, set}
use Rattle.units.specs.Kinds.{bytes, micros, prob}
use Rattle.pie.specs.declared.Backlog.{Backlog}
use Rattle.docsis_pie.specs.Update.{phase}
use Rattle.docsis_pie.specs.declared.DocsisPie.{DocsisPie}
use Rattle.modem_flow.specs.Fresh.{settings_of}
use Rattle.modem_flow.specs.declared.State.{State}

abbrev pub pie_of : (words : List ℕ) → DocsisPie
pie_of w =
    record {
      prob = prob (get_or w 7 0);
      accumulated = prob (get_or w 8 0);
      old = micros (get_or w 9 0);
      allowance = micros (get_or w 10 0);
      phase = phase (get_or w 12 0) (get_or w 11 0);
    }

abbrev pub backlog_of : (words : List ℕ) → Backlog
backlog_of w = record { count = get_or w 14 0; bytes = bytes (get_or w 15 0) }

-- the state that sixteen words hold
unfoldable pub state_of : (words : List ℕ) → State
state_of w =
    record {
      settings = settings_of (get_or w 0 0) (get_or w 1 0) (get_or w 2 0) (get_or w 3 0) (get_or w 4 0);
      clock = micros (get_or w 5 0);
      last = micros (get_or w 6 0);
      pie = pie_of w;
      backlog = backlog_of w;
      first = get_or w 13 0;
    }

-- the sixteen words of a state: words and state determine each other
unfoldable pub state_words : State → List ℕ
state_words s =
    s.settings.target.0
    ∷ s.settings.buffer.0
    ∷ s.settings.slots
    ∷ s.settings.peak.0
    ∷ s.settings.sustained.0
    ∷ s.clock.0
    ∷ s.last.0
    ∷ s.pie.prob.0
    ∷ s.pie.accumulated.0
    ∷ s.pie.old.0
    ∷ s.pie.allowance.0
    ∷ s.pie.phase.reset.0
    ∷ s.pie.phase.activity.0
    ∷ s.first
    ∷ s.backlog.count
    ∷ s.backlog.bytes.0
    ∷ []

-- the words that an arrival changes: clock, accumulated probability, allowance, activity, count and bytes
abbrev pub arrival_words : (words : List ℕ) → State → List ℕ
arrival_words w s =
    let early = set (set (set w 5 s.clock.0) 8 s.pie.accumulated.0) 10 s.pie.allowance.0 in
    set (set (set early 12 s.pie.phase.activity.0) 14 s.backlog.count) 15 s.backlog.bytes.0

-- the words that a departure changes: clock, first place, count and bytes
abbrev pub departure_words : (words : List ℕ) → State → List ℕ
departure_words w s = set (set (set (set w 5 s.clock.0) 13 s.first) 14 s.backlog.count) 15 s.backlog.bytes.0
