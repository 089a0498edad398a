-- An accepted departure from a well-formed record of 64 flows returns a well-formed one.
use mathlib.Core.Path.{◌≡◌, refl, ap, ◌∙◌}
use mathlib.Core.List.{List}
use Prim.Native.Nat.{ℕ, ◌+◌, ◌-◌, ◌≤◌, ◌<◌}
use native.Mathlib.Omega.{arith}
use lib.ListN.{length, length-set, set}
use Rattle.laws.specs.Tests.{all}
use Rattle.pie.specs.Verdicts.{total}
use Rattle.refusals.specs.Rows.{first_refusal}
use Rattle.schedule.specs.Ring.{charged_in, chosen_in}
use Rattle.schedule_guarantees.specs.KeptInRing as lists
use Rattle.schedule_guarantees.proofs.KeptInRing.{choosing-keeps-ring}
use Rattle.fq_state.specs.Flow.{empty_flow, flow_with}
use Rattle.fq_state.specs.State.{State, bytes_of, count_of, counts_of, each_bytes}
use Rattle.fq_state.specs.declared.Flow.{Flow}
use Rattle.fq_rules.specs.Departure.{choice_of, departed_common, departed_flow, head_size, served_flow}
use Rattle.fq_guarantees.specs.Acceptance.{acceptance}
use Rattle.fq_guarantees.specs.Calls.{depart}
use Rattle.fq_guarantees.specs.Kept.{Sound}
use Rattle.fq_guarantees.specs.Refusals.{rows_of}
use Rattle.fq_state.proofs.Facts.{FlowFits}
use Rattle.fq_guarantees.proofs.Facts.{Facts, well-formed}
use Rattle.fq_guarantees.proofs.Flows.{total-set}
use Rattle.fq_guarantees.proofs.OneFlow.{known-flow, served-low, served-some}
use Rattle.fq_guarantees.proofs.WhenAccepted.{DepartureAccepted}
use Rattle.fq_guarantees.proofs.WhenAccepted.{departure-accepted}
use Rattle.fq_guarantees.proofs.PartsKept.{departed-lists, flows-kept, lists-sound}

pub departed-count : (f : Flow) (sizes : List ℕ) (clock size : ℕ) → (departed_flow f sizes clock size).count ≡ f.count - 1
unfolding departed_flow flow_with
departed-count f sizes clock size = refl

departed-bytes : (f : Flow) (sizes : List ℕ) (clock size : ℕ) → (departed_flow f sizes clock size).bytes ≡ f.bytes - size
unfolding departed_flow flow_with
departed-bytes f sizes clock size = refl

-- the totals fall by what leaves
fallen : (all own size after : ℕ) → after + own ≡ all + (own - size) → size ≤ own → after ≡ all - size
fallen all own size after e h = omega arith

pub departed-sound : (s : State) (h : Sound s) (handles sizes : List ℕ) (clock : ℕ) →
    first_refusal (rows_of s (depart handles sizes clock)) ≡ 0 → Sound (acceptance s (depart handles sizes clock)).state
unfolding departed_common
departed-sound s h handles sizes clock e =
    record {
      flows_long = long;
      order-long = listed.order-long;
      deficits-long = listed.deficits-long;
      formed =
          well-formed (acceptance s (depart handles sizes clock)).state (record {
            common =
                record {
                  settings = k.common.settings;
                  last-high = omega (arith, k.common.last-high, a.clock-low);
                  clock-high = a.clock-high;
                  freed-high = own.head-high;
                  used_high = k.common.used_high;
                  used-is = omega (arith, k.common.used-is, a.some);
                  total-high = k.common.total-high;
                };
            flows = flows-kept s h (depart handles sizes clock) e long;
            totals =
                record {
                  counts-are =
                      fallen (total (counts_of s.flows)) f.count 1 (total (counts_of (set s.flows g x)))
                      (total-set count_of s.flows g x (empty_flow 0) below
                      ∙ ap (λ n. total (counts_of s.flows) + n) (departed-count f sizes clock size)) some
                      ∙ rw k.totals.counts-are;
                  bytes-are =
                      fallen (total (each_bytes s.flows)) f.bytes size (total (each_bytes (set s.flows g x)))
                      (total-set bytes_of s.flows g x (empty_flow 0) below
                      ∙ ap (λ n. total (each_bytes s.flows) + n) (departed-bytes f sizes clock size)) a.head.fits
                      ∙ rw k.totals.bytes-are;
                  bytes_fit = omega (arith, k.totals.bytes_fit);
                };
            listed = listed.well;
          });
    }
  where
    g : ℕ
    g = (choice_of s).flow

    f : Flow
    f = served_flow s

    size : ℕ
    size = head_size f sizes

    x : Flow
    x = departed_flow f sizes clock size

    a : DepartureAccepted s (length handles) sizes clock
    a = departure-accepted s (length handles) sizes clock e

    k : Facts s
    k = a.known

    low : g < 64
    low = served-low s (length handles) sizes clock h.flows_long a

    below : g < length s.flows
    below = omega (arith, low, h.flows_long)

    own : FlowFits s.common f
    own = known-flow s k h.flows_long g low

    some : 1 ≤ f.count
    some = served-some s.common f size own a.head.low a.head.fits

    long : length (set s.flows g x) ≡ 64
    long = length-set s.flows g x ∙ h.flows_long

    listed : lists.SoundRing (counts_of (set s.flows g x)) (charged_in (chosen_in s.schedule (choice_of s)) g size)
    listed =
        departed-lists s.flows (chosen_in s.schedule (choice_of s)) g size x
        (choosing-keeps-ring (counts_of s.flows) s.schedule (lists-sound s h)).0 low (departed-count f sizes clock size)
