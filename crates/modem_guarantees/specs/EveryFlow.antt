-- All sixteen flows of a modem at once: any list of calls to any of its flows in any order, fresh calls among them, from any modem. For
-- each flow whose last fresh call was accepted, the calls since then are accounted for: those admitted are those departed and then those
-- queued, in order; queued bytes and count are what went in less what came out; each count of its row is the number of answers so given;
-- and no call of the flow is refused by 2 or 9. What a flow held before its fresh call, and what the others are asked, does not matter.
use Rattle.std.specs.Prelude.{◌≡◌, Bool, true, false, cond, ◌≢◌, ℕ, ◌-◌, ◌≤◌, eqb, get_or, length}
use mathlib.Core.List.{List, [], ◌∷◌, ◌++◌, foldl}
use Rattle.calls.specs.Packets.{Packet, bytes_of}
use Rattle.calls.specs.Traces.{Entry, trace}
use Rattle.pie.specs.Verdicts.{place_of}
use Rattle.pie.specs.declared.Verdict.{Verdict}
use Rattle.pie.specs.declared.Verdict.TheVariants.{Marked}
use Rattle.refusals.specs.Answer.{Answer, departed, made, refused, ticked, verdict}
use Rattle.modem.specs.Asked.{Asked, Request, ask, start}
use Rattle.modem.specs.Counts.{row_of}
use Rattle.modem_guarantees.specs.Conservation.{times_answered}
use Rattle.modem_guarantees.specs.Handed.{admitted_by, departed_by, queued}
use Rattle.modem_guarantees.specs.Modem.{Call, Modem, modem, reply_to, view}

-- what one flow's calls since its last fresh call came to, by their answers
pub record Ledger : Type 0 where
  -- whether that fresh call was accepted; a refused one returns the all-zero record
  pub begun : Bool
  pub admitted : List Packet
  pub departed : List Packet
  pub answers : List Answer

abbrev pub is_made : Answer → Bool
is_made (refused number) = false
is_made made = true
is_made (verdict v) = false
is_made (departed handle size) = false
is_made ticked = false

-- one call of the flow more: a fresh call clears the ledger, any other extends it
abbrev pub noted : Ledger → Asked → Answer → Ledger
noted l (start settings clock) a = record { begun = is_made a; admitted = []; departed = []; answers = [] }
noted l (ask r) a =
    record {
      begun = l.begun;
      admitted = l.admitted ++ admitted_by r a;
      departed = l.departed ++ departed_by a;
      answers = l.answers ++ a ∷ [];
    }

-- a flow's own calls alone are noted
abbrev pub entered : (flow : ℕ) → Ledger → Entry modem → Ledger
entered flow l e = cond (eqb flow e.call.flow) (noted l e.call.asked e.answer) l

-- no fresh call yet
abbrev pub blank : Ledger
blank = record { begun = false; admitted = []; departed = []; answers = [] }

abbrev pub ledger : (flow : ℕ) → List (Entry modem) → Ledger
ledger flow entries = foldl (entered flow) blank entries

-- what the modem holds of the flow is what the ledger tells
pub record Accounted (flow : ℕ) (l : Ledger) (m : Modem) : Type 0 where
  -- first in first out, handle and size
  pub order : l.admitted ≡ l.departed ++ queued (view flow m)
  -- queued bytes = bytes admitted − bytes departed, a true difference; and so the count
  pub bytes : (m.flows flow).state.backlog.bytes.0 ≡ bytes_of l.admitted - bytes_of l.departed
  pub bytes-cover : bytes_of l.departed ≤ bytes_of l.admitted
  pub count : (m.flows flow).state.backlog.count ≡ length l.admitted - length l.departed
  pub count-cover : length l.departed ≤ length l.admitted
  -- each count of the flow's row is the number of arrivals so answered, and the marked count stays 0
  pub verdicts : (v : Verdict) → get_or (row_of m.counts flow) (place_of v) 0 ≡ times_answered v l.answers
  pub marked : get_or (row_of m.counts flow) (place_of Marked) 0 ≡ 0
  -- whatever the flow is asked next, it is not refused by 2 or 9
  pub never-2 : (r : Request) → (reply_to m (record { flow = flow; asked = ask r })).answer ≢ refused 2
  pub never-9 : (r : Request) → (reply_to m (record { flow = flow; asked = ask r })).answer ≢ refused 9

abbrev pub EveryFlow : Type 0
EveryFlow =
    (m : Modem) (calls : List Call) → length m.counts ≡ 16 → (flow : ℕ) → flow ≤ 15 →
    let l = ledger flow (trace modem m calls) in
    l.begun ≡ true → Accounted flow l (foldl modem.next m calls)
