-- Demand 3 and question 4: so many ticks on an empty queue, and the queue has recovered.
use mathlib.Core.Path.{◌≡◌, refl, ap, ◌∙◌}
use mathlib.Core.Bool.{Bool, true, false}
use mathlib.Core.List.{[], ◌∷◌, ◌++◌, foldl-append}
use Prim.Native.Nat.{ℕ, ◌+◌, ◌≤◌, ◌<◌}
use native.Mathlib.Omega.{arith}
use borrow.Author.Tests.{lt-ltb}
use Rattle.units.specs.Kinds.{none}
use Rattle.pie.specs.Constants.{full_allowance}
use Rattle.pie.specs.Update.{capped, decayed, divisor_of, error_of, limited, lookup, next_allowance, next_prob, step_of, updated}
use Rattle.pie.specs.declared.Pie.{Pie}
use Rattle.calls.specs.Traces.{Entry, entry}
use Rattle.calls.proofs.Traces.{cut}
use Rattle.pie_guarantees.specs.Recovery.{Recovery, RecoversAfter, Tally, noted, nothing_yet, tally}
use Rattle.pie_guarantees.specs.Shedding.{Shedding, Sheds, Ticked, ticked}
use Rattle.pie_guarantees.specs.TicksToRecover.{most_left, row_before}
use Rattle.pie_guarantees.proofs.AllowanceLasts.{allowed, allowed-low, inactive-allowed, ticked-by-limits}
use Rattle.pie_guarantees.proofs.AtTold.{active-ticked, at_told, inactive-ticked}
use Rattle.pie_guarantees.proofs.Bound.{bound}
use Rattle.pie_guarantees.proofs.Fading.{faded, no-delay, two-or-more}
use Rattle.pie_guarantees.proofs.Tallies.{Tallied, at-start, counted-empty, next-tallied, ticked-within}

-- rule 8 fills the allowance
refilled : (pie : Pie) (calm : Bool) (target : ℕ) → 0 < target → pie.old.0 ≡ 0 → (updated pie calm target 0).prob.0 ≡ 0 →
    (updated pie calm target 0).allowance.0 ≡ full_allowance
unfolding updated next_allowance
refilled pie calm target h old none =
    rw (none, no-delay pie.rate.average.0, old, lt-ltb 0 target h)

-- probability 0, and the allowance full
abbrev Clear : (k : Shedding) → Sheds k → k.kind.State → Type 0
Clear k sheds s = ((k.pie s).prob.0 ≡ none) × (full_allowance ≤ allowed k sheds s)

-- if the entry is the last of so many ticks, it returned a state that is clear
abbrev AllClear : (k : Shedding) → Sheds k → (ticks start_count : ℕ) → Tally → Entry k.kind → Type 0
AllClear k sheds ticks n t e =
    k.tells e.answer ≡ ticked → ticks ≤ (noted n t (k.tells e.answer)).empty_ticks → Clear k sheds e.returned

module _ (k : Shedding) (sheds : Sheds k) (ticks least : ℕ) (reached : bound least ticks ≡ 0) (n : ℕ)
    (t : Tally) (s : k.kind.State) (known : Tallied k least n t s) where
  active-clear : (s' : k.kind.State) (c : k.kind.Call) → k.Formed s → Ticked k s s' c → ticks ≤ (noted n t ticked).empty_ticks →
      k.active s ≡ true → Clear k sheds s'
  active-clear s' c f x h a =
      let two = two-or-more least ticks reached in
      let e = counted-empty k sheds least n t s known (sheds.ranges s f) (omega arith) in
      let empty : k.pie s' ≡ updated (k.pie s) (k.calm s) (k.target s) 0
      = active-ticked k s s' c x a ∙ ap (updated (k.pie s) (k.calm s) (k.target s)) e.0 in
      let within = ticked-within k sheds least n t s known a _ (counted-empty k sheds least n t s known (sheds.ranges s f)) in
      let p = faded least ticks _ (k.pie s') reached h (rw (active-ticked k s s' c x a) within) in
      let old : (k.pie s).old.0 ≡ 0 = (known.within a).old-none (omega (arith, e.1)) in
      let none : (updated (k.pie s) (k.calm s) (k.target s) 0).prob.0 ≡ 0 = rw empty at p in
      let full : (k.pie s').allowance.0 ≡ full_allowance
      = rw empty (refilled (k.pie s) (k.calm s) (k.target s) (sheds.ranges s f).target-low old none) in
      (p, omega (arith, full, allowed-low k sheds s'))

  -- an inactive queue has no probability, and turns active with a full allowance
  inactive-clear : (s' : k.kind.State) (c : k.kind.Call) → k.Formed s → Ticked k s s' c → k.active s ≡ false → Clear k sheds s'
  inactive-clear s' c f x a =
      let same = ap (λ (p : Pie). p.prob.0) (inactive-ticked k s s' c x a) in
      (same ∙ (sheds.ranges s f).inactive a, inactive-allowed k sheds s' (x.active a))

  ticked-clear : (s' : k.kind.State) (c : k.kind.Call) → k.Formed s → Ticked k s s' c → ticks ≤ (noted n t ticked).empty_ticks →
      Clear k sheds s'
  ticked-clear s' c f x h = go (k.active s) refl
    where
      go : (b : Bool) → k.active s ≡ b → Clear k sheds s'
      go true a = active-clear s' c f x h a
      go false a = inactive-clear s' c f x a

  all-clear : (c : k.kind.Call) → AllClear k sheds ticks n t (entry k.kind s c)
  all-clear c =
      at_told k sheds s c (λ h. h ≡ ticked → ticks ≤ (noted n t h).empty_ticks → Clear k sheds (k.kind.next s c))
      (λ x e h. absurd (let z : ◌≡◌ {A = ℕ} 0 1 = cc in omega arith))
      (λ v f x e h. absurd (let z : ◌≡◌ {A = ℕ} 0 1 = cc in omega arith))
      (λ size f x e h. absurd (let z : ◌≡◌ {A = ℕ} 0 1 = cc in omega arith))
      (λ f x e h. ticked-clear (k.kind.next s c) c f x h)

-- with a target of at least `least`, once the bound is 0 after so many ticks
pub recovers-after : (k : Shedding) → Sheds k → (ticks least : ℕ) → bound least ticks ≡ 0 →
    (start : k.kind.State) → k.Formed start → least ≤ k.target start → RecoversAfter k ticks start
recovers-after k sheds ticks least reached start f h calls before e later q =
    let n = k.count start in
    let note : Tally → Entry k.kind → Tally = λ t a. noted n t (k.tells a.answer) in
    let here =
    cut k.kind note (Tallied k least n) (λ t s. next-tallied k sheds least n t s) nothing_yet start calls before e later
    (at-start k least start (sheds.ranges start f) h) q in
    let more : tally k n (before ++ e ∷ []) ≡ note (tally k n before) e = foldl-append note nothing_yet before (e ∷ []) in
    let clear : AllClear k sheds ticks n (tally k n before) e
    = rw (← here.replied) (all-clear k sheds ticks least reached n (tally k n before) e.given here.holds e.call) in
    record {
      counted = here.holds.counted;
      covered = here.holds.covered;
      recovers =
          λ told enough.
          let c = clear told (rw more at enough) in (c.0, ticked-by-limits k sheds e later _ here told (omega (arith, c.1)));
    }

pub recovery : Recovery
unfolding bound capped decayed divisor_of error_of limited lookup most_left next_prob row_before step_of
recovery k sheds start f h = recovers-after k sheds _ 1000 refl start f h
