-- The plain profile answers as before (Q-12): over any list of calls from a plain well-formed state, with any tables lent to each, every
-- answer, every state and both tables are those of the rules before profiles (BeforeProfiles).
use Rattle.std.specs.Prelude.{◌≡◌, true, cond, List, [], map, ℕ}
use Rattle.calls.specs.Kind.{Kind}
use Rattle.calls.specs.Traces.{Entry, trace}
use Rattle.refusals.specs.Answer.{Answer, made, refused}
use Rattle.ring.specs.Arrival.{stored}
use Rattle.ring.specs.Fresh.{fresh, zero_state}
use Rattle.ring.specs.State.{well_formed}
use Rattle.ring.specs.declared.Settings.{Settings}
use Rattle.ring.specs.declared.State.{State}
use Rattle.ring_guarantees.specs.BeforeProfiles as before
use Rattle.ring.specs.Calls.{Call, arrive, depart, reply, update}

-- what a call gives back besides the state: the answer, and the tables that were lent as the call leaves them (none to a tick)
pub record Given : Type 0 where
  pub answer : Answer
  pub handles : List ℕ
  pub sizes : List ℕ

-- ── now, and before ──

abbrev pub given_with : State → Call → Answer → Given
given_with s (arrive handles sizes clock handle size ecn u) a =
    record { answer = a; handles = stored s a handles handle; sizes = stored s a sizes size }
given_with s (depart handles sizes clock) a = record { answer = a; handles = handles; sizes = sizes }
given_with s (update clock) a = record { answer = a; handles = []; sizes = [] }

abbrev pub now : Kind
now =
    record {
      State = State;
      Call = Call;
      Answer = Given;
      answer = λ s c. given_with s c (reply s c).answer;
      next = λ s c. (reply s c).state;
    }

abbrev pub given_before : before.State → Call → Given
given_before s c = let o = before.outcome s c in record { answer = o.answer; handles = o.handles; sizes = o.sizes }

abbrev pub before_profiles : Kind
before_profiles =
    record { State = before.State; Call = Call; Answer = Given; answer = given_before; next = λ s c. (before.outcome s c).state }

-- ── a record without profile and activity, and with the plain profile, active ──

abbrev pub settings_without : Settings → before.Settings
settings_without s = record { target = s.target; buffer = s.buffer; slots = s.slots }

abbrev pub without : State → before.State
without s =
    record {
      settings = settings_without s.settings;
      clock = s.clock;
      last = s.last;
      pie = s.pie;
      backlog = s.backlog;
      first = s.first;
      verdicts = s.verdicts;
    }

abbrev pub plain_settings : before.Settings → Settings
plain_settings s = record { target = s.target; buffer = s.buffer; slots = s.slots; profile = 0 }

abbrev pub plain : before.State → State
plain s =
    record {
      settings = plain_settings s.settings;
      clock = s.clock;
      last = s.last;
      pie = s.pie;
      backlog = s.backlog;
      first = s.first;
      verdicts = s.verdicts;
      active = true;
    }

abbrev pub plain_entry : Entry before_profiles → Entry now
plain_entry e = record { call = e.call; given = plain e.given; answer = e.answer; returned = plain e.returned }

-- ── the claims ──

abbrev pub PlainAsBefore : Type 0
PlainAsBefore =
    (start : State) (calls : List Call) → well_formed start ≡ true → start.settings.profile ≡ 0 →
    trace now start calls ≡ map plain_entry (trace before_profiles (without start) calls)

-- a plain fresh call is refused where it was, and else returns the state that it did
abbrev pub PlainFreshAsBefore : Type 0
PlainFreshAsBefore =
    (settings : before.Settings) (clock : ℕ) →
    fresh (plain_settings settings) clock
    ≡ cond (before.settings_refused settings clock)
    (record { answer = refused 1; state = zero_state })
    (record { answer = made; state = plain (before.fresh_state settings clock) })
