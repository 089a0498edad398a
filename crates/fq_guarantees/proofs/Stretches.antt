-- A list of calls as a stretch: the bytes that it serves are those that the answers hand out, and a flow with packets waits in it.
use mathlib.Core.Path.{◌≡◌, refl, ap, ◌∙◌}
use mathlib.Core.Bool.{Bool, true, false, cond}
use mathlib.Core.List.{List, [], ◌∷◌, ◌++◌, Memᴰ, foldl}
use Prim.Native.Nat.{ℕ, ◌+◌, ◌≤◌, ◌<◌}
use native.Mathlib.Omega.{arith}
use lib.ListN.{get_or}
use Rattle.pie.specs.Verdicts.{admitted}
use Rattle.calls.specs.Traces.{Entry, trace}
use Rattle.schedule.specs.Ring.{deficit_of}
use Rattle.schedule.specs.TwoLists.{zero_deficit}
use Rattle.schedule_guarantees.specs.Stretch.{AllFit, AtEach, Event, Line, Waits, after, arrives, served}
use Rattle.fq_state.specs.State.{State}
use Rattle.fq_rules.specs.Answer.{Answer, departed, refused, size_in, ticked, verdict}
use Rattle.fq_rules.specs.Answer as answer
use Rattle.fq_guarantees.specs.AsStretch.{ServesNext, events_of, line_of}
use Rattle.fq_guarantees.specs.Calls.{Call, arrive, depart, key_flow, reply, update}
use Rattle.fq_guarantees.specs.Fairness.{Backlogged, bytes_served, handed_out}
use Rattle.fq_guarantees.specs.FairnessBySize.{HandOutAtMost}
use Rattle.fq_guarantees.specs.Kept.{Sound}
use Rattle.fq_guarantees.specs.Lists.{fq_calls}
use Rattle.fq_guarantees.specs.Shedding.{own}
use Rattle.fq_guarantees.specs.SixtyFour.{Record64}
use Rattle.fq_guarantees.proofs.AsStretch.{as-stretch}
use Rattle.fq_guarantees.proofs.Kept.{kept}
use Rattle.fq_guarantees.proofs.OneFlow.{flow-low}
use Rattle.fq_guarantees.proofs.PartsKept.{count_at}

abbrev pub stretch_of : Record64 → List Call → List Event
stretch_of s [] = []
stretch_of s (c ∷ calls) = events_of (key_flow s.state c) (reply s.state c).answer ++ stretch_of (fq_calls.next s c) calls

-- ── one call ──

-- with this answer, from l to m, before the rest of a stretch
module _ (flow : ℕ) where
  stays : (l m : Line) (rest : List Event) → m ≡ l → served flow l rest ≡ 0 + served flow m rest
  stays l m rest e = rw e (omega arith)

  serves : (key : ℕ) (a : Answer) (l m : Line) (rest : List Event) → m ≡ foldl after l (events_of key a) → ServesNext l a →
      served flow l (events_of key a ++ rest) ≡ handed_out flow a + served flow m rest
  unfolding served
  serves key (refused number) l m rest e n = stays l m rest e
  serves key (verdict v) l m rest e n = go (admitted v) e
    where
      go : (t : Bool) → m ≡ foldl after l (cond t (arrives key ∷ []) []) →
          served flow l (cond t (arrives key ∷ []) [] ++ rest) ≡ 0 + served flow m rest
      go true e = omega (arith, stays (after l (arrives key)) m rest e)
      go false e = stays l m rest e
  serves key (departed from handle size) l m rest e n = rw (e, n)
  serves key ticked l m rest e n = stays l m rest e

  waits : (key : ℕ) (a : Answer) (l m : Line) (rest : List Event) → m ≡ foldl after l (events_of key a) →
      (answer.departs a ≡ true → 1 ≤ get_or l.counts flow 0) → AtEach flow m rest → AtEach flow l (events_of key a ++ rest)
  waits key (refused number) l m rest e has later = rw (← e) later
  waits key (verdict v) l m rest e has later = go (admitted v) e
    where
      go : (t : Bool) → m ≡ foldl after l (cond t (arrives key ∷ []) []) → AtEach flow l (cond t (arrives key ∷ []) [] ++ rest)
      go true e = (tt, rw (← e) later)
      go false e = rw (← e) later
  waits key (departed from handle size) l m rest e has later = (has refl, rw (← e) later)
  waits key ticked l m rest e has later = rw (← e) later

fits : (most key : ℕ) (a : Answer) (rest : List Event) → key < 64 → size_in a ≤ most → AllFit most rest →
    AllFit most (events_of key a ++ rest)
fits most key (refused number) rest low size later = later
fits most key (verdict v) rest low size later = go (admitted v)
  where
    go : (t : Bool) → AllFit most (cond t (arrives key ∷ []) [] ++ rest)
    go true = (low, later)
    go false = later
fits most key (departed from handle size) rest low fit later = (fit, later)
fits most key ticked rest low size later = later

pub key-flow-low : (s : State) (c : Call) → key_flow s c < 64
key-flow-low s (arrive handles sizes clock key handle size ecn u) = flow-low s key
key-flow-low s (depart handles sizes clock) = omega arith
key-flow-low s (update clock) = omega arith

-- ── a list of calls ──

pub served-as : (flow : ℕ) (s : Record64) (calls : List Call) → Sound s.state →
    served flow (line_of s.state) (stretch_of s calls) ≡ bytes_served flow (trace fq_calls s calls)
unfolding served
served-as flow s [] h = refl
served-as flow s (c ∷ calls) h =
    let m = as-stretch s.state c h.order-long in
    let a = (reply s.state c).answer in
    let t = fq_calls.next s c in
    serves flow (key_flow s.state c) a (line_of s.state) (line_of t.state) (stretch_of t calls) m.line m.serves
    ∙ ap (λ n. handed_out flow a + n) (served-as flow t calls (kept s.state c h))

at_each : (flow : ℕ) (s : Record64) (calls : List Call) → Sound s.state →
    ((a : Entry fq_calls) → Memᴰ a (trace fq_calls s calls) → answer.departs a.answer.answer ≡ true →
    1 ≤ (own flow a.given.state).count) →
    AtEach flow (line_of s.state) (stretch_of s calls)
at_each flow s [] h has = tt
at_each flow s (c ∷ calls) h has =
    let m = as-stretch s.state c h.order-long in
    let t = fq_calls.next s c in
    waits flow (key_flow s.state c) (reply s.state c).answer (line_of s.state) (line_of t.state) (stretch_of t calls) m.line
    (λ d. omega (arith, has _ (Memᴰ.head refl) d, count_at s.state.flows flow))
    (at_each flow t calls (kept s.state c h) (λ a k. has a (Memᴰ.tail k)))

pub all-fit : (most : ℕ) (s : Record64) (calls : List Call) → HandOutAtMost most (trace fq_calls s calls) → AllFit most (stretch_of s calls)
all-fit most s [] fit = tt
all-fit most s (c ∷ calls) fit =
    fits most (key_flow s.state c) (reply s.state c).answer (stretch_of (fq_calls.next s c) calls) (key-flow-low s.state c)
    (fit _ (Memᴰ.head refl)) (all-fit most (fq_calls.next s c) calls (λ a k. fit a (Memᴰ.tail k)))

pub waits-as : (flow most : ℕ) (s : Record64) (calls : List Call) → Sound s.state → Backlogged flow s calls →
    zero_deficit ≤ deficit_of s.state.schedule flow + most → Waits flow most (line_of s.state) (stretch_of s calls)
waits-as flow most s calls h b owed =
    record {
      at-start = omega (arith, b.at-start, count_at s.state.flows flow);
      at_each = at_each flow s calls h b.at_each;
      deficit = owed;
    }
