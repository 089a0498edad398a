-- Demand 3 and question 4: the ring sheds load by PIE, and its tally is the general one.
use mathlib.Core.Path.{◌≡◌, refl, ap, ◌∙◌}
use mathlib.Core.Bool.{true}
use mathlib.Core.List.{List, [], ◌∷◌, ◌++◌, foldl}
use Prim.Native.Nat.{ℕ, ◌≤◌}
use native.Mathlib.Omega.{arith}
use Rattle.pie.specs.Update.{capped, decayed, divisor_of, error_of, limited, lookup, next_prob, step_of}
use Rattle.pie_guarantees.specs.Recovery as general
use Rattle.pie_guarantees.specs.TicksToRecover.{most_left, row_before}
use Rattle.pie_guarantees.proofs.Bound.{bound}
use Rattle.pie_guarantees.proofs.Recovery as proved
use Rattle.refusals.specs.Answer.{Answer, departed, made, refused, ticked, verdict}
use Rattle.ring.specs.State.{well_formed}
use Rattle.ring.specs.declared.State.{State}
use Rattle.ring.proofs.Facts.{facts}
use Rattle.ring_guarantees.specs.Calls.{Entry}
use Rattle.ring_guarantees.specs.Recovery.{RecoveredAfter, Recovery, RecoversAfter, Tally, noted, nothing_yet, tally}
use Rattle.ring_guarantees.proofs.AllowanceLasts.{by-limits}
use Rattle.ring_guarantees.proofs.RingSheds.{clock_in, ring-sheds, ring_shedding, tells}

-- ── the tallies ──

abbrev pub same : Tally → general.Tally
same t = record { admissions = t.admissions; departures = t.departures; empty_ticks = t.empty_ticks }

noted-same : (n : ℕ) (t : Tally) (a : Answer) → general.noted n (same t) (tells a) ≡ same (noted n t a)
noted-same n t (refused number) = refl
noted-same n t made = refl
noted-same n t (verdict v) = refl
noted-same n t (departed handle size) = refl
noted-same n t ticked = refl

tallies-same : (n : ℕ) (t : Tally) (entries : List Entry) →
    foldl (λ (g : general.Tally) (e : Entry). general.noted n g (tells e.answer)) (same t) entries
    ≡ same (foldl (λ (t : Tally) (e : Entry). noted n t e.answer) t entries)
tallies-same n t [] = refl
tallies-same n t (e ∷ entries) = rw (noted-same n t e.answer) (tallies-same n (noted n t e.answer) entries)

pub tally-same : (n : ℕ) (entries : List Entry) → general.tally ring_shedding n entries ≡ same (tally n entries)
tally-same n entries = tallies-same n nothing_yet entries

-- ── the theorem ──

recovered : (ticks n : ℕ) (before : List Entry) (e : Entry) (later : List Entry) →
    general.RecoveredAfter ring_shedding ticks n before e later → RecoveredAfter ticks n before e later
recovered ticks n before e later r =
    let told = tally-same n before in
    let more = tally-same n (before ++ e ∷ []) in
    record {
      counted = r.counted ∙ ap (general.queued_by n) told;
      covered = omega (
        arith,
        r.covered,
        ap (λ (t : general.Tally). t.departures) told,
        ap (λ (t : general.Tally). t.admissions) told,
      );
      recovers =
          λ t ec ea enough.
          let c = r.recovers (ap tells ea) (omega (arith, enough, ap (λ (g : general.Tally). g.empty_ticks) more)) in
          (c.0, λ a m. by-limits _ a (λ v f l. c.1 a m v f (omega (arith, l, ap clock_in ec))));
    }

-- with a target of at least `least`, once the bound is 0 after so many ticks
pub recovers-after : (ticks least : ℕ) → bound least ticks ≡ 0 →
    (start : State) → well_formed start ≡ true → least ≤ start.settings.target.0 → RecoversAfter ticks start
recovers-after ticks least reached start w h calls before e later q =
    recovered ticks start.backlog.count before e later
    (proved.recovers-after ring_shedding ring-sheds ticks least reached start w h calls before e later q)

pub recovery : Recovery
unfolding bound capped decayed divisor_of error_of limited lookup most_left next_prob row_before step_of
recovery start w = recovers-after _ 1000 refl start w (facts start w).target-low
