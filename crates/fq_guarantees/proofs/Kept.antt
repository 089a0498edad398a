-- An accepted call on a well-formed record of 64 flows returns a well-formed one.
use mathlib.Core.Path.{◌≡◌, refl, ap, ◌∙◌}
use mathlib.Core.List.{map}
use Prim.Native.Nat.{ℕ}
use native.Mathlib.Omega.{arith}
use lib.ListN.{length, length-map}
use Rattle.pie.specs.Verdicts.{total}
use Rattle.refusals.specs.Rows.{first_refusal}
use Rattle.fq_state.specs.Flow.{flow_with}
use Rattle.fq_state.specs.State.{State, bytes_of, count_of}
use Rattle.fq_state.specs.declared.Flow.{Flow}
use Rattle.fq_rules.specs.Tick.{ticked_flow}
use Rattle.fq_guarantees.specs.Acceptance.{acceptance}
use Rattle.fq_guarantees.specs.Calls.{Call, arrive, depart, update}
use Rattle.fq_guarantees.specs.Kept.{Kept, Sound}
use Rattle.fq_guarantees.specs.Refusals.{rows_of}
use Rattle.fq_guarantees.proofs.Facts.{well-formed}
use Rattle.fq_guarantees.proofs.Flows.{map_same}
use Rattle.fq_guarantees.proofs.Replies.{by_number}
use Rattle.fq_guarantees.proofs.WhenAccepted.{tick-accepted}
use Rattle.fq_guarantees.proofs.ArrivalKept.{arrived-sound}
use Rattle.fq_guarantees.proofs.DepartureKept.{departed-sound}
use Rattle.fq_guarantees.proofs.PartsKept.{flows-kept}

-- ── a tick ──

pub ticked-count : (target : ℕ) (f : Flow) → (ticked_flow target f).count ≡ f.count
unfolding ticked_flow flow_with
ticked-count target f = refl

ticked-bytes : (target : ℕ) (f : Flow) → (ticked_flow target f).bytes ≡ f.bytes
unfolding ticked_flow flow_with
ticked-bytes target f = refl

ticked-sound : (s : State) (h : Sound s) (clock : ℕ) → first_refusal (rows_of s (update clock)) ≡ 0 →
    Sound (acceptance s (update clock)).state
ticked-sound s h clock e =
    let a = tick-accepted s clock e in
    let k = a.known in
    let ticks = ticked_flow s.common.settings.target.0 in
    let long : length (map ticks s.flows) ≡ 64 = length-map s.flows ticks ∙ h.flows_long in
    let counts = map_same count_of ticks (ticked-count s.common.settings.target.0) s.flows in
    let bytes = map_same bytes_of ticks (ticked-bytes s.common.settings.target.0) s.flows in
    record {
      flows_long = long;
      order-long = h.order-long;
      deficits-long = h.deficits-long;
      formed =
          well-formed (acceptance s (update clock)).state (record {
            common =
                record {
                  settings = k.common.settings;
                  last-high = omega arith;
                  clock-high = a.clock-high;
                  freed-high = k.common.freed-high;
                  used_high = k.common.used_high;
                  used-is = k.common.used-is;
                  total-high = k.common.total-high;
                };
            flows = flows-kept s h (update clock) e long;
            totals =
                record {
                  counts-are = ap total counts ∙ k.totals.counts-are;
                  bytes-are = ap total bytes ∙ k.totals.bytes-are;
                  bytes_fit = k.totals.bytes_fit;
                };
            listed = rw counts k.listed;
          });
    }

-- ── any call ──

accepted-sound : (s : State) (h : Sound s) (c : Call) → first_refusal (rows_of s c) ≡ 0 → Sound (acceptance s c).state
accepted-sound s h (arrive handles sizes clock key handle size ecn u) e = arrived-sound s h handles sizes clock key handle size ecn u e
accepted-sound s h (depart handles sizes clock) e = departed-sound s h handles sizes clock e
accepted-sound s h (update clock) e = ticked-sound s h clock e

pub kept : Kept
kept s c h = by_number (λ r. Sound r.state) s c (λ number some given. h) (accepted-sound s h c)
