-- Each flow sheds load by PIE: what each call does to it.
use mathlib.Core.Path.{◌≡◌, refl, sym, ap, subst, ◌∙◌}
use mathlib.Core.Bool.{Bool, true, false, not, cond, ◌&&◌, false≢true, true≢false}
use mathlib.Core.Logic.{◌≢◌}
use mathlib.Core.List.{List}
use Prim.Native.Nat.{ℕ, zero, suc, ◌+◌, ◌<◌, ◌≤◌}
use native.Mathlib.Omega.{arith}
use borrow.Author.Tests.{eqb-false, eqb-true}
use lib.Dec.{eqb}
use lib.ListN.{length}
use lib.Seq.{get_or-set_other, get_or-set_same}
use Rattle.units.specs.Kinds.{micros}
use Rattle.pie.specs.Backlog.{entered}
use Rattle.pie.specs.Constants.{period}
use Rattle.pie.specs.Update.{updated}
use Rattle.pie.specs.Verdicts.{admitted}
use Rattle.pie.specs.declared.Backlog.{Backlog}
use Rattle.pie.specs.declared.Pie.{Pie}
use Rattle.pie.specs.declared.Verdict.{Verdict}
use Rattle.pie_guarantees.specs.Shedding.{Arrived, Departed, Does, InRange, Sheds, Ticked, Told, Unchanged, nothing}
use Rattle.pie_guarantees.proofs.NoProfile.{begins-as-given}
use Rattle.refusals.proofs.Fitting.{HeadFits}
use Rattle.refusals.specs.Rows.{first_refusal}
use Rattle.store.specs.Put.{free_place}
use Rattle.fq_state.specs.Flow.{backlog_of, empty_flow, flow_with, pie_of}
use Rattle.fq_state.specs.State.{State, bytes_of, count_of}
use Rattle.laws.specs.Tests.{all}
use Rattle.fq_state.specs.WellFormed.{flow_conditions}
use Rattle.fq_state.specs.declared.Flow.{Flow}
use Rattle.fq_rules.specs.Arrival.{arrived_common, arrived_flow, arrived_pie, flow_number, verdict_of}
use Rattle.fq_rules.specs.Departure.{choice_of, departed_common, departed_flow, departed_pie, head_size, served_flow}
use Rattle.fq_rules.specs.Tick.{ticked_common, ticked_flow}
use Rattle.fq_guarantees.specs.Acceptance.{acceptance}
use Rattle.fq_guarantees.specs.Calls.{Call, arrive, depart, key_flow, reply, update}
use Rattle.fq_guarantees.specs.Lists.{fq_calls}
use Rattle.fq_guarantees.specs.Refusals.{rows_of}
use Rattle.fq_guarantees.specs.Shedding.{Formed, flow_queue, own, tells, told_of}
use Rattle.fq_guarantees.specs.SixtyFour.{Record64, same_length}
use Rattle.fq_state.proofs.Facts.{flow-fits, flow-passes, settings-fit, settings-pass}
use Rattle.fq_guarantees.proofs.Facts.{Facts}
use Rattle.fq_guarantees.proofs.FlowKept.{arrived-fits, departed-fits, left-fits, pie-with, ticked-fits}
use Rattle.fq_guarantees.proofs.Flows.{at_map, at_set}
use Rattle.fq_guarantees.proofs.OneFlow.{flow-low, known-flow, room, served-low, served-some}
use Rattle.fq_guarantees.proofs.Replies.{by_number}
use Rattle.fq_guarantees.proofs.WhenAccepted.{arrival-accepted, departure-accepted, tick-accepted}

abbrev record64 : (s : State) → length s.flows ≡ 64 → Record64
record64 s n = record { state = s; sixty_four = n }

-- of a well-formed record, each flow
pub own-formed : (f : ℕ) → f < 64 → (s : Record64) → Facts s.state → Formed f s.state
own-formed f h s k = (
  settings-pass s.state.common.settings k.common.settings,
  flow-passes s.state.common (own f s.state) (known-flow s.state k s.sixty_four f h),
)

-- ── a flow that a call leaves ──

left_alone : (f : ℕ) (s s' : Record64) → s'.state.common.settings ≡ s.state.common.settings →
    s'.state.common.last ≡ s.state.common.last → own f s'.state ≡ own f s.state → Unchanged (flow_queue f) s s'
left_alone f s s' settings last same =
    record {
      pie = ap pie_of same;
      active = refl;
      target = rw settings;
      count = ap count_of same;
      bytes = ap bytes_of same;
      last = rw last;
    }

-- ── an arrival ──

entered-backlog : (t : Bool) (b : Backlog) (size : ℕ) →
    ((cond t (entered b size) b).count ≡ cond t (b.count + 1) b.count)
    × ((cond t (entered b size) b).bytes.0 ≡ cond t (b.bytes.0 + size) b.bytes.0)
entered-backlog true b size = (refl, refl)
entered-backlog false b size = (refl, refl)

arrived-pie : (target : ℕ) (f : Flow) (size place : ℕ) (v : Verdict) → pie_of (arrived_flow target f size place v) ≡ arrived_pie target f v
unfolding arrived_flow
arrived-pie target f size place v = pie-with f (arrived_pie target f v) _ _

arrived-own : (g : ℕ) (s s' : Record64) (handles sizes : List ℕ) (clock : ℕ) (key : List ℕ) (handle size : ℕ) (ecn : Bool) (u place : ℕ) →
    let f = own g s.state in
    let v = verdict_of s.state.common f size ecn u in
    s.state.common.last.0 ≤ clock →
    s'.state.common.settings ≡ s.state.common.settings → s'.state.common.last ≡ s.state.common.last →
    own g s'.state ≡ arrived_flow s.state.common.settings.target.0 f size place v →
    Arrived (flow_queue g) s s' (arrive handles sizes clock key handle size ecn u) v
unfolding verdict_of arrived_flow flow_with
arrived-own g s s' handles sizes clock key handle size ecn u place since settings last becomes =
    let f = own g s.state in
    let v = verdict_of s.state.common f size ecn u in
    let target = s.state.common.settings.target.0 in
    let pie : pie_of (own g s'.state) ≡ arrived_pie target f v = ap pie_of becomes ∙ arrived-pie target f size place v in
    let backlog = entered-backlog (admitted v) (backlog_of f) size in
    record {
      since = since;
      verdict = refl;
      accumulated = ap (λ (p : Pie). p.accumulated.0) pie;
      count = ap count_of becomes ∙ backlog.0;
      bytes = ap bytes_of becomes ∙ backlog.1;
      prob = ap (λ (p : Pie). p.prob) pie;
      old = ap (λ (p : Pie). p.old) pie;
      allowance = ap (λ (p : Pie). p.allowance) pie;
      rate = ap (λ (p : Pie). p.rate) pie;
      active = refl;
      target = rw settings;
      last = rw last;
    }

-- ── a departure ──

departed-pie : (f : Flow) (sizes : List ℕ) (clock size : ℕ) → pie_of (departed_flow f sizes clock size) ≡ departed_pie f clock size
unfolding departed_flow
departed-pie f sizes clock size = pie-with f (departed_pie f clock size) _ _

departed-own : (g : ℕ) (s s' : Record64) (handles sizes : List ℕ) (clock size : ℕ) →
    let f = own g s.state in
    1 ≤ f.count → HeadFits (backlog_of f) size →
    s'.state.common.settings ≡ s.state.common.settings → s'.state.common.last ≡ s.state.common.last →
    own g s'.state ≡ departed_flow f sizes clock size →
    Departed (flow_queue g) s s' (depart handles sizes clock) size
unfolding departed_flow flow_with
departed-own g s s' handles sizes clock size some head settings last becomes =
    let f = own g s.state in
    let pie : pie_of (own g s'.state) ≡ departed_pie f clock size = ap pie_of becomes ∙ departed-pie f sizes clock size in
    record {
      some = some;
      fits = head.fits;
      others = head.left-high;
      count = ap count_of becomes;
      bytes = ap bytes_of becomes;
      rate = ap (λ (p : Pie). p.rate) pie;
      prob = ap (λ (p : Pie). p.prob) pie;
      old = ap (λ (p : Pie). p.old) pie;
      allowance = ap (λ (p : Pie). p.allowance) pie;
      accumulated = ap (λ (p : Pie). p.accumulated) pie;
      active = refl;
      target = rw settings;
      last = rw last;
    }

-- ── a tick ──

ticked-pie : (target : ℕ) (f : Flow) → pie_of (ticked_flow target f) ≡ updated (pie_of f) false target f.bytes
unfolding ticked_flow
ticked-pie target f = pie-with f (updated (pie_of f) false target f.bytes) _ _

ticked-own : (g : ℕ) (s s' : Record64) (clock : ℕ) →
    let f = own g s.state in
    s.state.common.last.0 + period ≤ clock →
    s'.state.common.settings ≡ s.state.common.settings → s'.state.common.last ≡ micros clock →
    own g s'.state ≡ ticked_flow s.state.common.settings.target.0 f →
    Ticked (flow_queue g) s s' (update clock)
unfolding ticked_flow flow_with
ticked-own g s s' clock due settings last becomes =
    let f = own g s.state in
    record {
      due = due;
      pie = ap pie_of becomes ∙ ticked-pie s.state.common.settings.target.0 f;
      active = λ e. e;
      last = rw last;
      target = rw settings;
      count = ap count_of becomes;
      bytes = ap bytes_of becomes;
    }

-- ── what a call does ──

-- by whether it is about this flow
by-flow : (P : ℕ → Told → Type 0) (f g : ℕ) (t : Told) → P g t → (f ≢ g → P f nothing) → P f (cond (eqb g f) t nothing)
by-flow P f g t same other = go (eqb g f) refl
  where
    go : (b : Bool) → eqb g f ≡ b → P f (cond b t nothing)
    go true e = subst (λ h. P h t) (eqb-true g f e) same
    go false e = other (λ q. eqb-false g f e (sym q))

accepted-does : (f : ℕ) → f < 64 → (s : Record64) (c : Call) → first_refusal (rows_of s.state c) ≡ 0 →
    (n : length (acceptance s.state c).state.flows ≡ 64) →
    Does (flow_queue f) s (record64 (acceptance s.state c).state n) c
    (told_of f (key_flow s.state c) (acceptance s.state c).answer)
unfolding arrived_common departed_common
accepted-does f h s (arrive handles sizes clock key handle size ecn u) e n =
    let g = flow_number s.state key in
    let low : g < length s.state.flows = omega (arith, flow-low s.state key, s.sixty_four) in
    let c = arrive handles sizes clock key handle size ecn u in
    let a = arrival-accepted s.state (length handles) sizes clock key size ecn u e in
    let k = a.known in
    let s' = record64 (acceptance s.state c).state n in
    by-flow (λ i t. Does (flow_queue i) s s' c t) f g _ (
      own-formed g (flow-low s.state key) s k,
      arrived-own g s s' handles sizes clock key handle size ecn u (free_place s.state.common.store)
          (omega (arith, k.common.last-high, a.clock-low)) refl refl (get_or-set_same s.state.flows g _ (empty_flow 0) low),
    )
    (λ other. left_alone f s s' refl refl (get_or-set_other s.state.flows g f _ (empty_flow 0) other))
accepted-does f h s (depart handles sizes clock) e n =
    let g = (choice_of s.state).flow in
    let c = depart handles sizes clock in
    let a = departure-accepted s.state (length handles) sizes clock e in
    let k = a.known in
    let below = served-low s.state (length handles) sizes clock s.sixty_four a in
    let low : g < length s.state.flows = omega (arith, s.sixty_four) in
    let s' = record64 (acceptance s.state c).state n in
    let fits = known-flow s.state k s.sixty_four g below in
    let some = served-some s.state.common (served_flow s.state) (head_size (served_flow s.state) sizes) fits in
    by-flow (λ i t. Does (flow_queue i) s s' c t) f g _ (
      own-formed g below s k,
      departed-own g s s' handles sizes clock (head_size (served_flow s.state) sizes) (some a.head.low a.head.fits) a.head refl
          refl (get_or-set_same s.state.flows g _ (empty_flow 0) low),
    )
    (λ other. left_alone f s s' refl refl (get_or-set_other s.state.flows g f _ (empty_flow 0) other))
accepted-does f h s (update clock) e n =
    let a = tick-accepted s.state clock e in
    let s' = record64 (acceptance s.state (update clock)).state n in (
      own-formed f h s a.known,
      ticked-own f s s' clock a.due refl refl
          (at_map (ticked_flow s.state.common.settings.target.0) s.state.flows f (empty_flow 0) (empty_flow 0)
          (omega (arith, s.sixty_four))),
    )

own-does : (f : ℕ) → f < 64 → (s : Record64) (c : Call) →
    Does (flow_queue f) s (fq_calls.next s c) c (tells f (fq_calls.answer s c))
own-does f h s c =
    by_number
    (λ r. (n : length r.state.flows ≡ 64) →
    Does (flow_queue f) s (record64 r.state n) c (told_of f (key_flow s.state c) r.answer)) s.state c
    (λ number some given n. left_alone f s (record64 s.state n) refl refl refl)
    (accepted-does f h s c)
    (same_length s.state c ∙ s.sixty_four)

-- ── flows stay well formed ──

-- what is known of an accepted call's flow, and of the others
pub accepted-keeps : (f : ℕ) → f < 64 → (s : Record64) (c : Call) → first_refusal (rows_of s.state c) ≡ 0 →
    Formed f (acceptance s.state c).state
unfolding arrived_common departed_common
accepted-keeps f h s (arrive handles sizes clock key handle size ecn u) e =
    let g = flow_number s.state key in
    let a = arrival-accepted s.state (length handles) sizes clock key size ecn u e in
    let k = a.known in
    let v = verdict_of s.state.common (own g s.state) size ecn u in
    let d = arrived_common s.state.common sizes clock size v in
    let below = flow-low s.state key in (
      settings-pass s.state.common.settings k.common.settings,
      at_set (λ x. all (flow_conditions d x) ≡ true) s.state.flows g f _ (empty_flow 0) (omega (arith, s.sixty_four))
          (flow-passes d _ (arrived-fits s.state.common d (own g s.state) clock size (free_place s.state.common.store) ecn u
          (known-flow s.state k s.sixty_four g below) a.clock-low a.clock-high a.size_low a.size-high
          (λ q.
          let r = room s.state g size ecn u k s.sixty_four below q in
          (omega (arith, r.count_low, r.own-count), omega (arith, r.bytes_low, r.own-bytes), r.place)) refl refl))
          (flow-passes d _ (left-fits s.state.common d _ (known-flow s.state k s.sixty_four f h) refl a.clock-low)),
    )
accepted-keeps f h s (depart handles sizes clock) e =
    let g = (choice_of s.state).flow in
    let a = departure-accepted s.state (length handles) sizes clock e in
    let k = a.known in
    let o = served_flow s.state in
    let size = head_size o sizes in
    let d = departed_common s.state.common o.head clock size in
    let below = served-low s.state (length handles) sizes clock s.sixty_four a in
    let fits = known-flow s.state k s.sixty_four g below in (
      settings-pass s.state.common.settings k.common.settings,
      at_set (λ x. all (flow_conditions d x) ≡ true) s.state.flows g f _ (empty_flow 0) (omega (arith, s.sixty_four))
          (flow-passes d _ (departed-fits s.state.common d o sizes clock size k.common fits a.clock-low a.clock-high
          (served-some s.state.common o size fits a.head.low a.head.fits) a.head a.link refl refl))
          (flow-passes d _ (left-fits s.state.common d _ (known-flow s.state k s.sixty_four f h) refl a.clock-low)),
    )
accepted-keeps f h s (update clock) e =
    let a = tick-accepted s.state clock e in
    let k = a.known in
    let d = ticked_common s.state.common clock in
    let o = own f s.state in
    let ticks = ticked_flow s.state.common.settings.target.0 in (
      settings-pass s.state.common.settings k.common.settings,
      rw (at_map ticks s.state.flows f (empty_flow 0) (empty_flow 0) (omega (arith, s.sixty_four)))
          (flow-passes d (ticks o) (ticked-fits s.state.common d o clock k.common (known-flow s.state k s.sixty_four f h)
          a.clock-low a.clock-high a.due refl refl)),
    )

own-kept : (f : ℕ) → f < 64 → (s : Record64) (c : Call) → Formed f s.state → Formed f (reply s.state c).state
own-kept f h s c formed =
    by_number (λ r. Formed f r.state) s.state c (λ number some given. formed) (accepted-keeps f h s c)

-- ── what well-formedness says ──

some-queued : (runs : Bool) (count : ℕ) → not (runs && eqb count 0) ≡ true → runs ≡ true → 0 < count
some-queued true zero busy e = absurd (false≢true busy)
some-queued true (suc n) busy e = omega arith
some-queued false count busy e = absurd (false≢true e)

own-ranges : (f : ℕ) (s : Record64) → Formed f s.state → InRange (flow_queue f) s
own-ranges f s formed =
    let k = settings-fit s.state.common.settings formed.0 in
    let o = own f s.state in
    let h = flow-fits s.state.common o formed.1 in
    record {
      target-low = omega (arith, k.target-low);
      prob-high = h.prob-high;
      allowance-high = h.allowance-high;
      accumulated-high = h.accumulated-high;
      bytes_high = h.bytes_high;
      inactive = λ e. absurd (true≢false e);
      busy = some-queued (pie_of o).rate.measuring o.count h.busy;
    }

pub flow-sheds : (f : ℕ) → f < 64 → Sheds (flow_queue f)
flow-sheds f h =
    record {
      begins = begins-as-given (flow_queue f);
      does = own-does f h;
      kept = own-kept f h;
      ranges = own-ranges f;
    }
