-- Once a crowd has left, a calm queue turns inactive: the probability is 0 and so are both delays, so that the tick meets rule 8.
use mathlib.Core.Path.{◌≡◌, refl, sym, ap, ◌∙◌}
use mathlib.Core.Bool.{Bool, true, false}
use mathlib.Core.List.{[], ◌∷◌, ◌++◌, foldl-append}
use Prim.Native.Nat.{ℕ, ◌≤◌, ◌<◌}
use native.Mathlib.Omega.{arith}
use borrow.Author.Tests.{le-ltb, lt-ltb}
use Rattle.pie.specs.Update.{delay_of, updated}
use Rattle.pie.specs.declared.Pie.{Pie}
use Rattle.calls.proofs.Traces.{cut}
use Rattle.pie_guarantees.specs.Recovery as general
use Rattle.pie_guarantees.proofs.Fading.{no-delay}
use Rattle.pie_guarantees.proofs.Tallies.{Tallied, at-start, counted-empty, next-tallied}
use Rattle.refusals.specs.Answer.{ticked}
use Rattle.ring.specs.Arrival.{arrived_state}
use Rattle.ring.specs.Activity.{begun, turns_inactive}
use Rattle.ring.specs.Departure.{departed_state}
use Rattle.ring.specs.State.{well_formed}
use Rattle.ring.specs.Tick.{ticked_pie, ticked_state}
use Rattle.ring.specs.declared.Settings.{Settings}
use Rattle.ring.specs.declared.State.{State}
use Rattle.ring.proofs.Facts.{Facts, facts}
use Rattle.ring.specs.Calls.{Call, reply, update}
use Rattle.ring_guarantees.specs.Calls.{Entry, ring_calls}
use Rattle.ring_guarantees.specs.Recovery.{RecoversAfter}
use Rattle.ring_guarantees.specs.TurnsInactive.{InactiveAfter, TurnsInactive}
use Rattle.ring_guarantees.proofs.Recovery.{recovery, tally-same}
use Rattle.ring_guarantees.proofs.Replies.{at-reply}
use Rattle.ring_guarantees.proofs.RingSheds.{ring-sheds, ring_shedding, tells}

-- every call leaves the settings
reply-settings : (s : State) (c : Call) → (reply s c).state.settings ≡ s.settings
unfolding arrived_state begun departed_state ticked_state
reply-settings s =
    at-reply s (λ c r. r.state.settings ≡ s.settings)
    (λ c number. refl)
    (λ handles sizes clock handle size ecn u a. refl)
    (λ handles sizes clock a. refl)
    (λ clock a. refl)

-- the old delay after a tick is its delay: none on an empty queue
ticked-delay : (s : State) → s.backlog.bytes.0 ≡ 0 → (ticked_pie s).old.0 ≡ 0
unfolding updated
ticked-delay s e = ap (λ (b : ℕ). delay_of b s.pie.rate.average.0) e ∙ no-delay s.pie.rate.average.0

meets-rule-8 : (s : State) (after : Pie) → s.settings.profile ≡ 1 → 0 < s.settings.target.0 → s.backlog.bytes.0 ≡ 0 →
    after.prob.0 ≡ 0 → after.old.0 ≡ 0 → s.pie.old.0 ≡ 0 → turns_inactive s after ≡ true
meets-rule-8 s after calm h empty none delay old =
    rw (calm, none, delay, old, lt-ltb 0 s.settings.target.0 h, empty, le-ltb s.settings.buffer.0 0 (omega arith))

empty-turns : (s : State) (clock : ℕ) → Facts s → s.settings.profile ≡ 1 → s.backlog.bytes.0 ≡ 0 →
    (s.active ≡ true → s.pie.old.0 ≡ 0) → (ticked_state s clock).pie.prob.0 ≡ 0 → (ticked_state s clock).active ≡ false
unfolding ticked_state
empty-turns s clock f calm empty old none = go s.active refl
  where
    go : (b : Bool) → s.active ≡ b → (ticked_state s clock).active ≡ false
    go true e =
        let p : (ticked_pie s).prob.0 ≡ 0 = rw e at none in
        rw (e, meets-rule-8 s (ticked_pie s) calm (omega (arith, f.target-low)) empty p (ticked-delay s empty) (old e))
    go false e = rw e

module _ (start : State) where
  abbrev n : ℕ
  n = start.backlog.count

  -- what is known of a state, with the tally of the answers so far
  record Known (t : general.Tally) (s : State) : Type 0 where
    tallied : Tallied ring_shedding 1000 n t s
    settings : s.settings ≡ start.settings

  next_known : (t : general.Tally) (s : State) → Known t s → (c : Call) →
      Known (general.noted n t (tells (reply s c).answer)) (reply s c).state
  next_known t s k c =
      record {
        tallied = next-tallied ring_shedding ring-sheds 1000 n t s k.tallied c;
        settings = reply-settings s c ∙ k.settings;
      }

  -- a tick on an empty queue that leaves no probability
  last-tick : (t : general.Tally) (s : State) → Known t s → start.settings.profile ≡ 1 → (c : Call) → (reply s c).answer ≡ ticked →
      1 < (general.noted n t (tells (reply s c).answer)).empty_ticks → (reply s c).state.pie.prob.0 ≡ 0 →
      (reply s c).state.active ≡ false
  last-tick t s k calm =
      at-reply s
      (λ c r.
      r.answer ≡ ticked → 1 < (general.noted n t (tells r.answer)).empty_ticks → r.state.pie.prob.0 ≡ 0 →
      r.state.active ≡ false)
      (λ c number e h none. cc)
      (λ handles sizes clock handle size ecn u a e h none. cc)
      (λ handles sizes clock a e h none. cc)
      (λ clock a e h none.
      let empty = counted-empty ring_shedding ring-sheds 1000 n t s k.tallied (ring-sheds.ranges s a.formed) (omega (arith, h)) in
      empty-turns s clock a.known (ap (λ (x : Settings). x.profile) k.settings ∙ calm) empty.0
      (λ active. (k.tallied.within active).old-none (omega (arith, h, empty.1))) none)

-- it is a tick that is answered so
ticked-call : (s : State) (c : Call) → (reply s c).answer ≡ ticked → (t : ℕ) × (c ≡ update t)
ticked-call s =
    at-reply s (λ c r. r.answer ≡ ticked → (t : ℕ) × (c ≡ update t))
    (λ c number e. absurd (let z : ◌≡◌ {A = ℕ} 0 1 = cc in omega arith))
    (λ handles sizes clock handle size ecn u a e. absurd (let z : ◌≡◌ {A = ℕ} 0 1 = cc in omega arith))
    (λ handles sizes clock a e. absurd (let z : ◌≡◌ {A = ℕ} 0 1 = cc in omega arith))
    (λ clock a e. (clock, refl))

pub inactive-after : (ticks : ℕ) → 1 < ticks → (start : State) → well_formed start ≡ true → start.settings.profile ≡ 1 →
    RecoversAfter ticks start → InactiveAfter ticks start
inactive-after ticks two start w calm recovers calls before e later q told enough =
    let n = start.backlog.count in
    let note : general.Tally → Entry → general.Tally = λ t a. general.noted n t (tells a.answer) in
    let here =
    cut ring_calls note (Known start) (next_known start) general.nothing_yet start calls before e later
    (record { tallied = at-start ring_shedding 1000 start (ring-sheds.ranges start w) (facts start w).target-low; settings = refl }) q in
    let s = e.given in
    let answer : (reply s e.call).answer ≡ e.answer = ap (λ (x : Entry). x.answer) here.replied in
    let state : (reply s e.call).state ≡ e.returned = ap (λ (x : Entry). x.returned) here.replied in
    let more : general.tally ring_shedding n (before ++ e ∷ []) ≡ note (general.tally ring_shedding n before) e
    = foldl-append note general.nothing_yet before (e ∷ []) in
    let call = ticked-call s e.call (answer ∙ told) in
    let none = ((recovers calls before e later q).recovers call.0 call.1 told enough).0 in
    let counted : ticks ≤ (note (general.tally ring_shedding n before) e).empty_ticks
    = omega (
      arith,
      enough,
      ap (λ (t : general.Tally). t.empty_ticks) more,
      ap (λ (t : general.Tally). t.empty_ticks) (tally-same n (before ++ e ∷ [])),
    ) in
    ap (λ (x : State). x.active) (sym state)
    ∙ last-tick start (general.tally ring_shedding n before) s here.holds calm e.call (answer ∙ told)
    (rw answer (omega (arith, two, counted)))
    (ap (λ (x : State). x.pie.prob.0) state ∙ none)

pub turns-inactive : TurnsInactive
turns-inactive start w calm = inactive-after _ (omega arith) start w calm (recovery start w)
