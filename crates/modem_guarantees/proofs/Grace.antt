-- An early drop that makes a flow active leaves a full allowance, and only the ninth tick after it leaves none.
use mathlib.Core.Path.{◌≡◌, refl, ap, ◌∙◌}
use mathlib.Core.Bool.{Bool, true, false, cond}
use mathlib.Core.Logic.{◌≢◌, ◌⊎◌, inl, inr}
use mathlib.Core.List.{List, Memᴰ}
use Prim.Native.Nat.{ℕ, ◌+◌, ◌-◌, ◌*◌, ◌/◌, ◌≤◌, ◌<◌}
use native.Mathlib.Omega.{arith}
use lib.Dec.{eqb}
use borrow.Author.Tests.{eq-eqb, eqb-false, lt-ltb}
use Rattle.units.specs.Kinds.{none}
use Rattle.laws.proofs.Choice.{at-cond, either}
use Rattle.calls.proofs.Traces.{along, cut}
use Rattle.pie.specs.Verdicts.{is_early, place_of}
use Rattle.pie.specs.declared.Verdict.{Verdict}
use Rattle.pie.specs.declared.Verdict.TheVariants.{DroppedBytes, DroppedEarly, DroppedSlots}
use Rattle.refusals.specs.Answer.{verdict}
use Rattle.docsis_pie.specs.Constants.{active, full_allowance, inactive, period, quiescent}
use Rattle.docsis_pie.specs.DropDecision.{after_drop, cleared, decided, drawn, drawn_with, enqueued_with, in_allowance, is_inactive, is_quiescent}
use Rattle.docsis_pie.specs.DropDecision.{scaled_of, stays_inactive, summed, with_accumulated, with_activity, with_allowance, no_longer_inactive}
use Rattle.docsis_pie.specs.Update.{updated}
use Rattle.docsis_pie.specs.declared.Decided.{Decided}
use Rattle.docsis_pie.specs.declared.DocsisPie.{DocsisPie}
use Rattle.modem_flow.specs.declared.State.{State}
use Rattle.modem_flow.specs.Arrival.{arrived_state, bytes_full, decision_of, slots_full, turned_away}
use Rattle.modem_flow.specs.Departure.{departed_state}
use Rattle.modem_flow.specs.Tick.{ticked_state}
use Rattle.modem_flow.proofs.Replies as flow-replies
use Rattle.modem_flow.proofs.WhenAccepted.{arrival-accepted}
use Rattle.modem_guarantees.specs.Calls.{ByLimitsBefore, Call, Entry, arrive, depart, flow_calls, limits_verdict, reply, update}
use Rattle.modem_guarantees.specs.Grace.{Grace, grace}
use Rattle.modem_guarantees.proofs.Replies.{Accepted, acceptance, at-one-reply}

-- ── what an arrival does to the allowance: nothing, or a full one ──

-- the allowance is still n, or full
abbrev StillOrFull : (n : ℕ) → DocsisPie → Type 0
StillOrFull n q = (q.allowance.0 ≡ n) ⊎ (q.allowance.0 ≡ full_allowance)

cleared-allowance : (pie : DocsisPie) → (cleared pie).allowance.0 ≡ pie.allowance.0
cleared-allowance pie =
    either (λ q. q.allowance.0 ≡ pie.allowance.0) (eqb pie.prob.0 none) (with_accumulated pie none) pie refl refl

no_longer_inactive-allowance : (pie : DocsisPie) → (no_longer_inactive pie).allowance.0 ≡ pie.allowance.0
no_longer_inactive-allowance pie =
    either (λ q. q.allowance.0 ≡ pie.allowance.0) (is_inactive pie) (with_activity pie quiescent) pie refl refl

decided-allowance : (pie : DocsisPie) (target buffer bytes size u : ℕ) →
    StillOrFull pie.allowance.0 (decided pie target buffer bytes size u).pie
unfolding decided drawn_with
decided-allowance pie target buffer bytes size u =
    either P (in_allowance pie) (enqueued_with pie) _ (inl refl)
    (either P (stays_inactive pie buffer bytes) (enqueued_with (cleared pie)) _ (inl (cleared-allowance pie))
    (either (StillOrFull pie.allowance.0) (is_early (drawn sum target bytes scaled u)) (after_drop sum) sum
    (either (StillOrFull pie.allowance.0) (is_quiescent sum) _ (with_accumulated sum none) (inr refl) (inl same))
    (inl same)))
  where
    P : Decided → Type 0
    P d = StillOrFull pie.allowance.0 d.pie

    scaled : ℕ
    scaled = scaled_of pie.prob.0 size

    sum : DocsisPie
    sum = summed (no_longer_inactive (cleared pie)) scaled

    same : sum.allowance.0 ≡ pie.allowance.0
    same = no_longer_inactive-allowance (cleared pie) ∙ cleared-allowance pie

decision-allowance : (s : State) (size u : ℕ) → StillOrFull s.pie.allowance.0 (decision_of s size u).pie
unfolding decision_of
decision-allowance s size u =
    either P (bytes_full s size) (turned_away s DroppedBytes) _ (inl refl)
    (either P (slots_full s) (turned_away s DroppedSlots) _ (inl refl)
    (decided-allowance s.pie s.settings.target.0 s.settings.buffer.0 s.backlog.bytes.0 size u))
  where
    P : Decided → Type 0
    P d = StillOrFull s.pie.allowance.0 d.pie

-- ── an early drop in a flow that was not active ──

pub record Protected (pie : DocsisPie) : Type 0 where
  pub activity : pie.phase.activity.0 ≡ active
  pub allowance : pie.allowance.0 ≡ full_allowance

-- where it drops early, the flow is protected
abbrev DropProtects : Decided → Type 0
DropProtects d = d.verdict ≡ DroppedEarly → Protected d.pie

clash : (v : Verdict) → place_of v ≢ place_of DroppedEarly → v ≢ DroppedEarly
clash v apart e = apart (ap place_of e)

cleared-activity : (pie : DocsisPie) → (cleared pie).phase.activity.0 ≡ pie.phase.activity.0
cleared-activity pie =
    either (λ q. q.phase.activity.0 ≡ pie.phase.activity.0) (eqb pie.prob.0 none) (with_accumulated pie none) pie refl refl

-- rule 6 leaves a flow that was not active quiescent
no_longer_inactive-quiescent : (pie : DocsisPie) → pie.phase.activity.0 ≤ active → pie.phase.activity.0 ≢ active →
    (no_longer_inactive pie).phase.activity.0 ≡ quiescent
no_longer_inactive-quiescent pie h n =
    at-cond (λ (q : DocsisPie). q.phase.activity.0 ≡ quiescent) (is_inactive pie)
    (λ e. refl)
    (λ e. let other : pie.phase.activity.0 ≢ inactive = eqb-false pie.phase.activity.0 inactive e in omega arith)

decided-protects : (pie : DocsisPie) (target buffer bytes size u : ℕ) → pie.phase.activity.0 ≤ active → pie.phase.activity.0 ≢ active →
    DropProtects (decided pie target buffer bytes size u)
unfolding decided drawn_with
decided-protects pie target buffer bytes size u h n =
    either DropProtects (in_allowance pie) (enqueued_with pie) _ (λ e. absurd (clash _ (λ z. omega arith) e))
    (either DropProtects (stays_inactive pie buffer bytes) (enqueued_with (cleared pie)) _ (λ e. absurd (clash _ (λ z. omega arith) e))
    (λ e. rw e (rw (eq-eqb sum.phase.activity.0 quiescent started) (record { activity = refl; allowance = refl }))))
  where
    sum : DocsisPie
    sum = summed (no_longer_inactive (cleared pie)) (scaled_of pie.prob.0 size)

    started : sum.phase.activity.0 ≡ quiescent
    started =
        no_longer_inactive-quiescent (cleared pie) (omega (arith, cleared-activity pie)) (λ e. n (omega (arith, cleared-activity pie)))

decision-protects : (s : State) (size u : ℕ) → s.pie.phase.activity.0 ≤ active → s.pie.phase.activity.0 ≢ active →
    DropProtects (decision_of s size u)
unfolding decision_of
decision-protects s size u h n =
    either DropProtects (bytes_full s size) (turned_away s DroppedBytes) _ (λ e. absurd (clash _ (λ z. omega arith) e))
    (either DropProtects (slots_full s) (turned_away s DroppedSlots) _ (λ e. absurd (clash _ (λ z. omega arith) e))
    (decided-protects s.pie s.settings.target.0 s.settings.buffer.0 s.backlog.bytes.0 size u h n))

-- ── how long a full allowance lasts ──

-- past t + 128,000, or from t on with an allowance that is full or that enough periods after the last tick will end
abbrev Safe : (t clock last allowance : ℕ) → Type 0
Safe t clock last a =
    (t + grace ≤ clock) ⊎ ((t ≤ clock) × ((a ≡ full_allowance) ⊎ (t + grace ≤ last + period * ((a + 15999) / 16000))))

step-safe : (t clock last a clock' a' : ℕ) → Safe t clock last a → clock ≤ clock' → (a' ≡ a) ⊎ (a' ≡ full_allowance) → Safe t clock' last a'
step-safe t clock last a clock' a' (inl h) le st = inl (omega arith)
step-safe t clock last a clock' a' (inr (h, inl f)) le (inl e) = inr (omega arith, inl (e ∙ f))
step-safe t clock last a clock' a' (inr (h, inl f)) le (inr e) = inr (omega arith, inl e)
step-safe t clock last a clock' a' (inr (h, inr l)) le (inl e) = inr (omega arith, inr (rw e l))
step-safe t clock last a clock' a' (inr (h, inr l)) le (inr e) = inr (omega arith, inl e)

tick-safe : (t clock last a clock' : ℕ) → Safe t clock last a → clock ≤ clock' → last + period ≤ clock' → Safe t clock' clock' (a - period)
tick-safe t clock last a clock' (inl h) le due = inl (omega arith)
tick-safe t clock last a clock' (inr (h, inl f)) le due = inr (omega arith, inr (omega arith))
tick-safe t clock last a clock' (inr (h, inr l)) le due = inr (omega arith, inr (omega arith))

-- before t + 128,000 it runs
runs : (t clock last a now : ℕ) → Safe t clock last a → last ≤ clock → clock ≤ now → now < t + grace → 0 < a
runs t clock last a now (inl h) le later early = absurd (omega arith)
runs t clock last a now (inr (h, inl f)) le later early = omega arith
runs t clock last a now (inr (h, inr l)) le later early = omega arith

abbrev SafeState : (t : ℕ) → State → Type 0
SafeState t s = Safe t s.clock.0 s.last.0 s.pie.allowance.0

accepted-safe : (t : ℕ) (s : State) → SafeState t s → (c : Call) → Accepted s c → SafeState t (acceptance s c).state
unfolding arrived_state departed_state ticked_state updated
accepted-safe t s p (arrive row handles sizes clock handle size u) a =
    step-safe t s.clock.0 s.last.0 s.pie.allowance.0 clock _ p a.clock-low (decision-allowance s size u)
accepted-safe t s p (depart row handles sizes clock) a =
    step-safe t s.clock.0 s.last.0 s.pie.allowance.0 clock _ p a.clock-low (inl refl)
accepted-safe t s p (update row clock credits) a =
    tick-safe t s.clock.0 s.last.0 s.pie.allowance.0 clock p a.clock-low a.due

kept-safe : (t : ℕ) (s : State) → SafeState t s → (c : Call) → SafeState t (reply s c).state
kept-safe t s p c = at-one-reply (λ r. SafeState t r.state) s c (λ number. p) (accepted-safe t s p c)

-- ── where an allowance runs, rules 1 and 2 decide ──

chosen : (a b : Bool) (x y z : Decided) → (cond a x (cond b y z)).verdict ≡ cond a x.verdict (cond b y.verdict z.verdict)
chosen true b x y z = refl
chosen false true x y z = refl
chosen false false x y z = refl

limits-decide : (s : State) (size u : ℕ) → 0 < s.pie.allowance.0 → (decision_of s size u).verdict ≡ limits_verdict s size
unfolding decision_of decided
limits-decide s size u h =
    chosen (bytes_full s size) (slots_full s) (turned_away s DroppedBytes) (turned_away s DroppedSlots) _
    ∙ rw (lt-ltb 0 s.pie.allowance.0 h)

by-limits : (t : ℕ) (s : State) (row handles sizes : List ℕ) (clock handle size u : ℕ) (v : Verdict) → SafeState t s →
    (reply s (arrive row handles sizes clock handle size u)).answer ≡ verdict v → clock < t + grace → v ≡ limits_verdict s size
by-limits t s row handles sizes clock handle size u v p e early =
    let d = flow-replies.decided s row handles sizes clock size u v e in
    let a = arrival-accepted s row _ _ clock size d.0 in
    let allowed = runs t s.clock.0 s.last.0 s.pie.allowance.0 clock p a.known.last-high a.clock-low early in
    rw (← d.1) (limits-decide s size u allowed)

entry-by-limits : (t : ℕ) (s : State) → SafeState t s → (c : Call) → ByLimitsBefore (t + grace) (record { call = c; given = s; answer = (reply s c).answer; returned = (reply s c).state })
entry-by-limits t s p c row handles sizes clock handle size u v is e early =
    by-limits t s row handles sizes clock handle size u v p (rw is at e) early

-- ── the claim ──

-- what an arrival that dropped early leaves
pub record Dropped (t : ℕ) (s : State) : Type 0 where
  pub protected : Protected s.pie
  pub safe : SafeState t s

dropped : (s : State) (row handles sizes : List ℕ) (t handle size u : ℕ) →
    (reply s (arrive row handles sizes t handle size u)).answer ≡ verdict DroppedEarly → s.pie.phase.activity.0 ≢ active →
    Dropped t (reply s (arrive row handles sizes t handle size u)).state
unfolding arrived_state
dropped s row handles sizes t handle size u drops idle =
    let d = flow-replies.decided s row handles sizes t size u DroppedEarly drops in
    let a = arrival-accepted s row _ _ t size d.0 in
    let p = decision-protects s size u a.known.activity-high idle d.1 in
    rw d.2 (record { protected = p; safe = inr (omega arith, inl p.allowance) })

pub grace-holds : Grace
grace-holds start calls before e later row handles sizes t handle size u q is drops idle =
    let here = cut flow_calls (λ n x. tt) (λ n s. Unit {0}) (λ n s h c. tt) (tt {0}) start calls before e later tt q in
    let s = e.given in
    let c = e.call in
    let answered : (reply s c).answer ≡ e.answer = ap (λ (x : Entry). x.answer) here.replied in
    let returned : (reply s c).state ≡ e.returned = ap (λ (x : Entry). x.returned) here.replied in
    let left : Dropped t (reply s c).state = rw is (dropped s row handles sizes t handle size u (rw is at (answered ∙ drops)) idle) in
    let out : Dropped t e.returned = rw returned at left in (
      out.protected.activity,
      out.protected.allowance,
      rw (← here.onward) (along flow_calls (SafeState t) (ByLimitsBefore (t + grace)) (kept-safe t) (entry-by-limits t) (reply s c).state here.calls left.safe),
    )
