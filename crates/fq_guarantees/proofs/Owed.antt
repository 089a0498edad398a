-- Calls let no flow owe more than the largest packet that they hand out; from fresh none does.
use mathlib.Core.Path.{◌≡◌, refl}
use mathlib.Core.Bool.{Bool, true, false, cond, false≢true}
use mathlib.Core.List.Memᴰ
use mathlib.Core.List.{List, [], ◌∷◌, ◌++◌, foldl}
use Prim.Native.Nat.{ℕ, ◌+◌, ◌≤◌, ◌<◌}
use native.Mathlib.Omega.{arith}
use lib.ListN.{get_or, get_or-replicate, length}
use Rattle.pie.specs.Verdicts.{admitted}
use Rattle.calls.specs.Traces.{trace}
use Rattle.refusals.specs.Rows.{first_refusal}
use Rattle.schedule.specs.Ring.{deficit_of, two_lists}
use Rattle.schedule.specs.TwoLists.{zero_deficit}
use Rattle.schedule_guarantees.specs.Kept as lists
use Rattle.schedule_guarantees.specs.Owing.{OweAtMost}
use Rattle.schedule_guarantees.specs.Stretch.{Line, after, arrives}
use Rattle.schedule_guarantees.specs.Stretch as stretch
use Rattle.schedule_guarantees.proofs.ChoosingEnds.{holder-low}
use Rattle.schedule_guarantees.proofs.Owing.{owing}
use Rattle.fq_state.specs.Fresh.{fresh, fresh_refusal}
use Rattle.fq_state.specs.State.{State, counts_of}
use Rattle.fq_state.specs.declared.Settings.{Settings}
use Rattle.fq_rules.specs.Answer.{Answer, departed, departs, refused, size_in, ticked, verdict}
use Rattle.fq_rules.specs.Departure.{choice_of}
use Rattle.fq_guarantees.specs.Acceptance.{acceptance}
use Rattle.fq_guarantees.specs.AsStretch.{events_of, line_of}
use Rattle.fq_guarantees.specs.Calls.{Call, arrive, depart, key_flow, reply, update}
use Rattle.fq_guarantees.specs.Fairness.{Backlogged}
use Rattle.fq_guarantees.specs.FairnessBySize.{HandOutAtMost}
use Rattle.fq_guarantees.specs.Kept.{Sound}
use Rattle.fq_guarantees.specs.Lists.{fq_calls}
use Rattle.fq_guarantees.specs.Refusals.{rows_of}
use Rattle.fq_guarantees.specs.SixtyFour.{Record64, fresh64}
use Rattle.fq_guarantees.proofs.AsStretch.{as-stretch}
use Rattle.fq_guarantees.proofs.FreshFormed.{fresh-accepted}
use Rattle.fq_guarantees.proofs.Kept.{kept}
use Rattle.fq_guarantees.proofs.NeverMalformed.{fresh-sound}
use Rattle.fq_guarantees.proofs.PartsKept.{count_at, two-lists-sound}
use Rattle.fq_guarantees.proofs.Replies.{by_number}
use Rattle.fq_guarantees.proofs.ServesQueued.{serves-queued}
use Rattle.fq_guarantees.proofs.Stretches.{key-flow-low}
use Rattle.fq_guarantees.proofs.WhenAccepted.{departure-accepted}

-- ── one call ──

-- some flow has a packet
abbrev Some : Line → Type 0
Some l = (flow : ℕ) × (1 ≤ get_or l.counts flow 0)

accepted-some : (s : State) (c : Call) → Sound s → first_refusal (rows_of s c) ≡ 0 → departs (acceptance s c).answer ≡ true →
    Some (line_of s)
accepted-some s (arrive handles sizes clock key handle size ecn u) h e d = absurd (false≢true d)
accepted-some s (depart handles sizes clock) h e d =
    ((choice_of s).flow, (serves-queued s h (omega (arith, (departure-accepted s (length handles) sizes clock e).some))).may.holds)
accepted-some s (update clock) h e d = absurd (false≢true d)

departs-some : (s : State) (c : Call) → Sound s → departs (reply s c).answer ≡ true → Some (line_of s)
departs-some s c h =
    by_number (λ r. departs r.answer ≡ true → Some (line_of s)) s c (λ n some given d. absurd (false≢true d)) (accepted-some s c h)

module _ (most : ℕ) where
  -- with this answer, from l to m
  moved : (key : ℕ) (a : Answer) (l m : Line) → m ≡ foldl after l (events_of key a) → lists.Sound l.counts l.lists → key < 64 →
      size_in a ≤ most → (departs a ≡ true → Some l) → OweAtMost most l.lists → OweAtMost most m.lists
  moved key (refused number) l m e h low fit some owed = rw e owed
  moved key (verdict v) l m e h low fit some owed = go (admitted v) e
    where
      go : (t : Bool) → m ≡ foldl after l (cond t (arrives key ∷ []) []) → OweAtMost most m.lists
      go true e = rw e (owing l (arrives key) most h low tt owed)
      go false e = rw e owed
  moved key (departed from handle size) l m e h low fit some owed = rw e (owing l (stretch.departs size) most h fit (some refl) owed)
  moved key ticked l m e h low fit some owed = rw e owed

  owed-kept : (s : State) (c : Call) → Sound s → size_in (reply s c).answer ≤ most → OweAtMost most (two_lists s.schedule) →
      OweAtMost most (two_lists (reply s c).state.schedule)
  owed-kept s c h fit owed =
      moved (key_flow s c) (reply s c).answer (line_of s) (line_of (reply s c).state) (as-stretch s c h.order-long).line
      (two-lists-sound s h)
      (key-flow-low s c) fit (departs-some s c h) owed

  -- ── a list of calls, and those after it ──

  pub record Later (start : Record64) (calls : List Call) : Type 0 where
    pub sound : Sound start.state
    pub owed : OweAtMost most (two_lists start.state.schedule)
    pub fit : HandOutAtMost most (trace fq_calls start calls)

  pub later : (s : Record64) (earlier calls : List Call) → Later s (earlier ++ calls) → Later (foldl fq_calls.next s earlier) calls
  later s [] calls k = k
  later s (c ∷ earlier) calls k =
      later (fq_calls.next s c) earlier calls
      (record {
        sound = kept s.state c k.sound;
        owed = owed-kept s.state c k.sound (k.fit _ (Memᴰ.head refl)) k.owed;
        fit = λ a m. k.fit a (Memᴰ.tail m);
      })

-- ── from fresh ──

-- each deficit is 0
fresh-owes : (settings : Settings) (clock most : ℕ) → fresh_refusal settings clock ≡ 0 → OweAtMost most
    (two_lists (fresh settings clock).schedule)
unfolding fresh
fresh-owes settings clock most e j low = rw (fresh-accepted settings clock e) (omega (arith, get_or-replicate 64 j zero_deficit 0 low))

pub from-fresh : (most : ℕ) (settings : Settings) (clock : ℕ) (earlier calls : List Call) → fresh_refusal settings clock ≡ 0 →
    HandOutAtMost most (trace fq_calls (fresh64 settings clock) (earlier ++ calls)) →
    Later most (foldl fq_calls.next (fresh64 settings clock) earlier) calls
from-fresh most settings clock earlier calls e fit =
    later most (fresh64 settings clock) earlier calls
    (record { sound = fresh-sound settings clock e; owed = fresh-owes settings clock most e; fit = fit })

-- a flow with a packet is one of the 64
pub owed-by : (most f : ℕ) (start : Record64) (calls : List Call) → Later most start calls → Backlogged f start calls →
    zero_deficit ≤ deficit_of start.state.schedule f + most
owed-by most f start calls k b =
    let s = start.state in
    k.owed f
    (holder-low (counts_of s.flows) (two_lists s.schedule) f (two-lists-sound s k.sound)
    (omega (arith, b.at-start, count_at s.flows f)))
