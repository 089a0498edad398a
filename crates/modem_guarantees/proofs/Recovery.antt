-- Ticks that find a flow empty bring its probability to 0: no other call changes the probability or the old delay.
use mathlib.Core.Path.{◌≡◌, refl, ap, ◌∙◌}
use mathlib.Core.Bool.{true}
use mathlib.Core.List.{List, [], ◌∷◌, foldl}
use mathlib.Core.Logic.{inl}
use Prim.Native.Nat.{ℕ, zero, suc, ◌+◌, ◌≤◌, ◌<◌, min}
use native.Mathlib.Nat.{zero-div}
use native.Mathlib.Omega.{arith}
use borrow.Author.Tests.{eqb-true}
use lib.Dec.{eqb, ltb}
use Rattle.laws.proofs.Choice.{at-cond, either}
use Rattle.units.specs.Kinds.{none}
use Rattle.pie.specs.Verdicts.{is_early}
use Rattle.pie.specs.declared.Verdict.TheVariants.{DroppedBytes, DroppedSlots}
use Rattle.docsis_pie.specs.Constants.{active, full_allowance, quiescent}
use Rattle.docsis_pie.specs.Delay.{delay_of}
use Rattle.docsis_pie.specs.DropDecision.{after_drop, cleared, decided, drawn, drawn_with, enqueued_with, in_allowance, is_inactive, is_quiescent}
use Rattle.docsis_pie.specs.DropDecision.{no_longer_inactive, scaled_of, stays_inactive, summed, with_accumulated, with_activity, with_allowance}
use Rattle.docsis_pie.specs.Probability.{next_prob, stepped_prob}
use Rattle.docsis_pie.specs.Update.{updated}
use Rattle.docsis_pie.specs.declared.Decided.{Decided}
use Rattle.docsis_pie.specs.declared.DocsisPie.{DocsisPie}
use Rattle.docsis_pie.proofs.Ranges.{next-prob-le}
use Rattle.modem_flow.specs.declared.State.{State}
use Rattle.modem_flow.specs.Arrival.{arrived_state, bytes_full, decision_of, slots_full, turned_away}
use Rattle.modem_flow.specs.Departure.{departed_state}
use Rattle.modem_flow.specs.State.{formed}
use Rattle.modem_flow.specs.Tick.{ticked_state}
use Rattle.modem_flow.proofs.Facts.{Facts, facts}
use Rattle.modem_guarantees.specs.Calls.{Call, arrive, depart, flow_calls, reply, trace, update}
use Rattle.modem_guarantees.specs.Recovery.{Recovered, Recovery, counted}
use Rattle.modem_guarantees.specs.TicksToRecover.{ticks_to_recover}
use Rattle.modem_guarantees.proofs.IdleTicks.{bound, bound-first, bound-next, bound-stays}
use Rattle.modem_guarantees.proofs.NeverEarly.{never-early}
use Rattle.modem_guarantees.proofs.Replies.{Accepted, acceptance, at-one-reply, reply-formed}
use Rattle.modem_guarantees.proofs.TicksToRecover.{reached}

-- ── an arrival changes neither the probability nor the old delay ──

abbrev Still : DocsisPie → DocsisPie → Type 0
Still pie q = (q.prob ≡ pie.prob) × (q.old ≡ pie.old)

cleared-still : (pie : DocsisPie) → Still pie (cleared pie)
cleared-still pie = either (Still pie) (eqb pie.prob.0 none) (with_accumulated pie none) pie (refl, refl) (refl, refl)

no-longer-inactive-still : (pie : DocsisPie) → Still pie (no_longer_inactive pie)
no-longer-inactive-still pie = either (Still pie) (is_inactive pie) (with_activity pie quiescent) pie (refl, refl) (refl, refl)

after-drop-still : (pie : DocsisPie) → Still pie (after_drop pie)
after-drop-still pie =
    either (Still pie) (is_quiescent pie) (with_allowance (with_activity (with_accumulated pie none) active) full_allowance)
    (with_accumulated pie none) (refl, refl) (refl, refl)

decided-still : (pie : DocsisPie) (target buffer bytes size u : ℕ) → Still pie (decided pie target buffer bytes size u).pie
unfolding decided drawn_with
decided-still pie target buffer bytes size u =
    either P (in_allowance pie) (enqueued_with pie) _ (refl, refl)
    (either P (stays_inactive pie buffer bytes) (enqueued_with (cleared pie)) _ (cleared-still pie)
    (either (Still pie) (is_early (drawn sum target bytes scaled u)) (after_drop sum) sum
    ((after-drop-still sum).0 ∙ same.0, (after-drop-still sum).1 ∙ same.1)
    same))
  where
    P : Decided → Type 0
    P d = Still pie d.pie

    scaled : ℕ
    scaled = scaled_of pie.prob.0 size

    sum : DocsisPie
    sum = summed (no_longer_inactive (cleared pie)) scaled

    same : Still pie sum
    same =
        let a = no-longer-inactive-still (cleared pie) in
        let b = cleared-still pie in
        (a.0 ∙ b.0, a.1 ∙ b.1)

decision-still : (s : State) (size u : ℕ) → Still s.pie (decision_of s size u).pie
unfolding decision_of
decision-still s size u =
    either P (bytes_full s size) (turned_away s DroppedBytes) _ (refl, refl)
    (either P (slots_full s) (turned_away s DroppedSlots) _ (refl, refl)
    (decided-still s.pie s.settings.target.0 s.settings.buffer.0 s.backlog.bytes.0 size u))
  where
    P : Decided → Type 0
    P d = Still s.pie d.pie

-- ── a tick ──

no-delay : (credits peak sustained : ℕ) → delay_of 0 credits peak sustained ≡ 0
unfolding delay_of
no-delay credits peak sustained =
    let fast : min 0 credits ≡ 0 = omega arith in rw (fast, zero-div peak, zero-div sustained)

-- after n ticks in succession that each found the flow empty
pub record Within (target n : ℕ) (s : State) : Type 0 where
  pub same : s.settings.target.0 ≡ target
  pub prob-high : s.pie.prob.0 ≤ bound target n
  pub old-none : 0 < n → s.pie.old.0 ≡ 0

next-within : (target n p allowance old : ℕ) → target ≤ 100000 → p ≤ bound target n → (0 < n → old ≡ 0) →
    next_prob p allowance 0 old target ≤ bound target (suc n)
unfolding next_prob
next-within target zero p allowance old h l o =
    either (λ q. q ≤ bound target 1) (ltb 0 allowance) none (stepped_prob p 0 old target) (omega arith) (bound-first target p old h l)
next-within target (suc n) p allowance old h l o =
    rw (o (omega arith))
    (either (λ q. q ≤ bound target (suc (suc n))) (ltb 0 allowance) none (stepped_prob p 0 0 target) (omega arith)
    (bound-next target (suc n) p l))

empty-within : (target n : ℕ) (s : State) (clock credits : ℕ) → target ≤ 100000 → s.backlog.bytes.0 ≡ 0 → Within target n s →
    Within target (suc n) (ticked_state s clock credits)
unfolding ticked_state updated
empty-within target n s clock credits h empty w =
    let no : delay_of s.backlog.bytes.0 credits s.settings.peak.0 s.settings.sustained.0 ≡ 0
    = rw empty (no-delay credits s.settings.peak.0 s.settings.sustained.0) in
    record {
      same = w.same;
      prob-high =
          rw (no, w.same)
          (next-within target n s.pie.prob.0 s.pie.allowance.0 s.pie.old.0 h w.prob-high w.old-none);
      old-none = λ h. no;
    }

-- a tick that found a packet
any-within : (target : ℕ) (s : State) (clock credits : ℕ) → s.settings.target.0 ≡ target → Within target 0 (ticked_state s clock credits)
unfolding ticked_state updated bound
any-within target s clock credits same =
    record { same = same; prob-high = next-prob-le _ _ _ _ _; old-none = λ h. absurd (omega arith) }

-- ── every call ──

pub accepted-within : (target n : ℕ) (s : State) → Facts s → Within target n s → (c : Call) → Accepted s c →
    Within target (counted n s (acceptance s c).answer) (acceptance s c).state
unfolding arrived_state departed_state
accepted-within target n s f w (arrive row handles sizes clock handle size u) a =
    let d = decision-still s size u in
    record {
      same = w.same;
      prob-high = rw d.0 w.prob-high;
      old-none = λ h. ap (λ m. m.0) d.1 ∙ w.old-none h;
    }
accepted-within target n s f w (depart row handles sizes clock) a =
    record { same = w.same; prob-high = w.prob-high; old-none = w.old-none }
accepted-within target n s f w (update row clock credits) a =
    at-cond (λ m. Within target m (ticked_state s clock credits)) (eqb s.backlog.count 0)
    (λ e.
    let one : n + 1 ≡ suc n = omega arith in
    let high : target ≤ 100000 = omega (arith, f.target-high, w.same) in
    rw one (empty-within target n s clock credits high (omega (arith, f.bytes_high, eqb-true s.backlog.count 0 e)) w))
    (λ e. any-within target s clock credits w.same)

call-within : (target n : ℕ) (s : State) → formed s ≡ true → Within target n s → (c : Call) →
    Within target (counted n s (reply s c).answer) (reply s c).state
call-within target n s good w c =
    at-one-reply (λ r. Within target (counted n s r.answer) r.state) s c (λ number. w) (accepted-within target n s (facts s good) w c)

calls-within : (target n : ℕ) (s : State) (calls : List Call) → formed s ≡ true → Within target n s →
    Within target (foldl (λ m e. counted m e.given e.answer) n (trace s calls)) (foldl flow_calls.next s calls)
calls-within target n s [] good w = w
calls-within target n s (c ∷ calls) good w =
    calls-within target (counted n s (reply s c).answer) (reply s c).state calls (reply-formed s good c)
    (call-within target n s good w c)

pub at-start : (s : State) → formed s ≡ true → Within s.settings.target.0 0 s
unfolding bound
at-start s good = record { same = refl; prob-high = (facts s good).prob-high; old-none = λ h. absurd (omega arith) }

-- ── the claim ──

pub recovered : (target n : ℕ) (s : State) → 1000 ≤ target → target ≤ 100000 → Within target n s → ticks_to_recover target ≤ n → Recovered s
recovered target n s low high w enough =
    let gone = bound-stays target (ticks_to_recover target) n enough (reached target low high) in
    let zeroed : s.pie.prob.0 ≡ none = omega (arith, w.prob-high, gone) in
    record {
      prob = zeroed;
      never-early = λ row handles sizes clock handle size u. never-early s row handles sizes clock handle size u (inl zeroed);
    }

pub recovery : Recovery
recovery start calls good enough =
    let target = start.settings.target.0 in
    let f = facts start good in
    recovered target _ _ f.target-low f.target-high (calls-within target 0 start calls good (at-start start good)) enough
