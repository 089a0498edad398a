-- Every accepted call returns a well-formed state where it is given one, and a fresh state is well formed.
use mathlib.Core.Path.{◌≡◌, refl}
use mathlib.Core.Bool.{true, false, ◌&&◌}
use mathlib.Core.List.{List}
use Prim.Native.Nat.{ℕ, ◌+◌, ◌*◌, ◌≤◌, ◌<◌}
use native.Mathlib.Nat.{mod-lt}
use native.Mathlib.Omega.{arith}
use lib.Dec.{leb}
use lib.ListN.{get_or}
use borrow.Author.Tests.{leb-true, not-false}
use Rattle.laws.proofs.Choice.{at-cond, either}
use Rattle.laws.proofs.Tests.{and_left, and_right}
use Rattle.units.specs.Kinds.{fastest, none, slowest}
use Rattle.pie.specs.Constants.{largest, latest}
use Rattle.pie.specs.Verdicts.{admitted}
use Rattle.pie.specs.declared.Backlog.{Backlog}
use Rattle.pie.specs.declared.Verdict.TheVariants.{DroppedBytes, DroppedSlots}
use Rattle.refusals.specs.Answer.{made}
use Rattle.laws.specs.Tests.{all}
use Rattle.laws.proofs.TestLists.{all-at}
use Rattle.docsis_pie.specs.declared.Decided.{Decided}
use Rattle.docsis_pie.proofs.Kept.{PieFits, decided-fits, spent_fits, updated-fits}
use Rattle.modem_flow.specs.Answer.{Reply}
use Rattle.modem_flow.specs.Arrival.{arrived_state, bytes_full, decision_of, slots_full, turned_away}
use Rattle.modem_flow.specs.Departure.{departed_state}
use Rattle.modem_flow.specs.Fresh.{fresh, fresh_state}
use Rattle.modem_flow.specs.Refusals.{settings_refused}
use Rattle.modem_flow.specs.State.{formed, settings_conditions}
use Rattle.modem_flow.specs.Tick.{ticked_state}
use Rattle.modem_flow.specs.declared.Settings.{Settings}
use Rattle.modem_flow.specs.declared.State.{State}
use Rattle.modem_flow.proofs.Admitted.{admitted-room}
use Rattle.modem_flow.proofs.Facts.{Facts, is-formed}
use Rattle.modem_flow.proofs.WhenAccepted.{ArrivalAccepted, DepartureAccepted, TickAccepted}

-- ── the facts of a state, part by part ──

record SettingsFit (s : Settings) : Type 0 where
  target-low : 1000 ≤ s.target.0
  target-high : s.target.0 ≤ 100000
  buffer-low : 1 ≤ s.buffer.0
  buffer-high : s.buffer.0 ≤ 16777216
  slots-low : 1 ≤ s.slots
  slots-high : s.slots ≤ 65536
  peak-low : slowest ≤ s.peak.0
  peak-high : s.peak.0 ≤ fastest
  sustained-low : slowest ≤ s.sustained.0
  sustained-high : s.sustained.0 ≤ fastest

record BacklogFits (s : Settings) (b : Backlog) : Type 0 where
  count-high : b.count ≤ s.slots
  bytes_low : b.count ≤ b.bytes.0
  bytes_high : b.bytes.0 ≤ largest * b.count
  bytes_fit : b.bytes.0 ≤ s.buffer.0

record Fits (s : State) : Type 0 where
  settings : SettingsFit s.settings
  last-high : s.last.0 ≤ s.clock.0
  clock-high : s.clock.0 ≤ latest
  pie : PieFits s.pie
  backlog : BacklogFits s.settings s.backlog
  first-high : s.first < s.settings.slots

pub pie-fits : (s : State) → Facts s → PieFits s.pie
pie-fits s f =
    record {
      prob-high = f.prob-high;
      accumulated-high = f.accumulated-high;
      old-high = f.old-high;
      allowance-high = f.allowance-high;
      phase =
          record { reset-high = f.reset-high; activity-high = f.activity-high; allowed = f.allowed; resetting = f.resetting };
    }

settings-of : (s : State) → Facts s → SettingsFit s.settings
settings-of s f =
    record {
      target-low = f.target-low;
      target-high = f.target-high;
      buffer-low = f.buffer-low;
      buffer-high = f.buffer-high;
      slots-low = f.slots-low;
      slots-high = f.slots-high;
      peak-low = f.peak-low;
      peak-high = f.peak-high;
      sustained-low = f.sustained-low;
      sustained-high = f.sustained-high;
    }

backlog-of : (s : State) → Facts s → BacklogFits s.settings s.backlog
backlog-of s f =
    record { count-high = f.count-high; bytes_low = f.bytes_low; bytes_high = f.bytes_high; bytes_fit = f.bytes_fit }

fits-formed : (s : State) → Fits s → formed s ≡ true
fits-formed s f =
    is-formed s (record {
      target-low = f.settings.target-low;
      target-high = f.settings.target-high;
      buffer-low = f.settings.buffer-low;
      buffer-high = f.settings.buffer-high;
      slots-low = f.settings.slots-low;
      slots-high = f.settings.slots-high;
      peak-low = f.settings.peak-low;
      peak-high = f.settings.peak-high;
      sustained-low = f.settings.sustained-low;
      sustained-high = f.settings.sustained-high;
      last-high = f.last-high;
      clock-high = f.clock-high;
      prob-high = f.pie.prob-high;
      accumulated-high = f.pie.accumulated-high;
      old-high = f.pie.old-high;
      allowance-high = f.pie.allowance-high;
      reset-high = f.pie.phase.reset-high;
      activity-high = f.pie.phase.activity-high;
      first-high = f.first-high;
      count-high = f.backlog.count-high;
      bytes_low = f.backlog.bytes_low;
      bytes_high = f.backlog.bytes_high;
      bytes_fit = f.backlog.bytes_fit;
      allowed = f.pie.phase.allowed;
      resetting = f.pie.phase.resetting;
    })

-- ── an arrival ──

decision-fits : (s : State) (size u : ℕ) → PieFits s.pie → PieFits (decision_of s size u).pie
unfolding decision_of
decision-fits s size u f =
    let away = spent_fits s.pie none (omega arith) f in
    either P (bytes_full s size) (turned_away s DroppedBytes) _ away
    (either P (slots_full s) (turned_away s DroppedSlots) _ away
    (decided-fits s.pie s.settings.target.0 s.settings.buffer.0 s.backlog.bytes.0 size u f))
  where
    P : Decided → Type 0
    P d = PieFits d.pie

pub arrived-formed : (s : State) (row : List ℕ) (handles_length sizes_length clock size u : ℕ) →
    ArrivalAccepted s row handles_length sizes_length clock size → formed (arrived_state s clock size (decision_of s size u)) ≡ true
unfolding arrived_state
arrived-formed s row handles_length sizes_length clock size u a =
    let f = a.known in
    let d = decision_of s size u in
    fits-formed (arrived_state s clock size d) (record {
      settings = settings-of s f;
      last-high = omega arith;
      clock-high = a.clock-high;
      pie = decision-fits s size u (pie-fits s f);
      backlog =
          at-cond (BacklogFits s.settings) (admitted d.verdict)
          (λ e. let room = admitted-room s size u f.count-high e in omega arith)
          (λ e. backlog-of s f);
      first-high = f.first-high;
    })

-- ── a departure ──

pub departed-formed : (s : State) (row : List ℕ) (handles_length sizes_length clock head_size : ℕ) →
    DepartureAccepted s row handles_length sizes_length clock head_size → formed (departed_state s clock head_size) ≡ true
unfolding departed_state
departed-formed s row handles_length sizes_length clock head_size a =
    let f = a.known in
    fits-formed (departed_state s clock head_size) (record {
      settings = settings-of s f;
      last-high = omega arith;
      clock-high = a.clock-high;
      pie = pie-fits s f;
      backlog = omega arith;
      first-high = mod-lt (s.first + 1) f.slots-low;
    })

-- ── a tick ──

pub ticked-formed : (s : State) (row : List ℕ) (clock credits : ℕ) → TickAccepted s row clock → formed (ticked_state s clock credits) ≡ true
unfolding ticked_state
ticked-formed s row clock credits a =
    let f = a.known in
    fits-formed (ticked_state s clock credits) (record {
      settings = settings-of s f;
      last-high = omega arith;
      clock-high = a.clock-high;
      pie =
          updated-fits s.pie s.settings.target.0 s.backlog.bytes.0 credits s.settings.peak.0 s.settings.sustained.0
          (pie-fits s f);
      backlog = backlog-of s f;
      first-high = f.first-high;
    })

-- ── a fresh state ──

settings-fit : (s : Settings) → all (settings_conditions s) ≡ true → SettingsFit s
settings-fit s e =
    let at : (i : ℕ) → get_or (settings_conditions s) i true ≡ true = all-at (settings_conditions s) e in
    record {
      target-low = leb-true _ _ (at 0);
      target-high = leb-true _ _ (at 1);
      buffer-low = leb-true _ _ (at 2);
      buffer-high = leb-true _ _ (at 3);
      slots-low = leb-true _ _ (at 4);
      slots-high = leb-true _ _ (at 5);
      peak-low = leb-true _ _ (at 6);
      peak-high = leb-true _ _ (at 7);
      sustained-low = leb-true _ _ (at 8);
      sustained-high = leb-true _ _ (at 9);
    }

pub made-accepted : (settings : Settings) (clock : ℕ) → (fresh settings clock).answer ≡ made → settings_refused settings clock ≡ false
unfolding fresh
made-accepted settings clock =
    at-cond (λ (r : Reply). r.answer ≡ made → settings_refused settings clock ≡ false) (settings_refused settings clock) (λ b e. cc) (λ b e. b)

pub fresh-formed : (settings : Settings) (clock : ℕ) → (fresh settings clock).answer ≡ made → formed (fresh settings clock).state ≡ true
unfolding fresh
fresh-formed settings clock e =
    let no = made-accepted settings clock e in
    let fine = all (settings_conditions settings) in
    let ok : fine && leb clock latest ≡ true = not-false (fine && leb clock latest) no in
    let time : clock ≤ latest = leb-true _ _ (and_right fine (leb clock latest) ok) in
    let fit = settings-fit settings (and_left fine (leb clock latest) ok) in
    rw no (fits-formed (fresh_state settings clock) (record {
      settings = fit;
      last-high = omega arith;
      clock-high = time;
      pie =
          record {
            prob-high = omega arith;
            accumulated-high = omega arith;
            old-high = omega arith;
            allowance-high = omega arith;
            phase = record { reset-high = omega arith; activity-high = omega arith; allowed = refl; resetting = refl };
          };
      backlog = omega arith;
      first-high = fit.slots-low;
    }))
