-- A tick of a flow with no probability, delay or byte fills its allowance.
use mathlib.Core.Path.{◌≡◌, refl}
use mathlib.Core.Bool.{true, false}
use Prim.Native.Nat.{ℕ, ◌<◌}
use native.Mathlib.Omega.{arith}
use lib.IntN.{ℤ, pos, negsuc, ◌+ℤ◌}
use borrow.Author.Tests.{lt-ltb}
use Rattle.pie.specs.Constants.{full_allowance}
use Rattle.pie.specs.Update.{AtMost, capped, decayed, delay_of, divisor_of, error_of, limited, next_allowance, next_prob, step_of, updated}
use Rattle.pie.proofs.IdleStep.{decayed-at-most, idle-step-not-positive}
use Rattle.pie_words.proofs.Flags.{flag-kept}
use Rattle.fq_state.specs.Flow.{flow_with}
use Rattle.fq_state.specs.declared.Flow.{Flow}
use Rattle.fq_rules.specs.Tick.{ticked_flow}

limited-none : (q : ℤ) → AtMost 0 q → limited q ≡ 0
unfolding limited
limited-none (pos n) h = omega arith
limited-none (negsuc n) h = refl

-- the step is never positive
prob-stays-0 : (target : ℕ) → next_prob false 0 0 0 target ≡ 0
unfolding next_prob
prob-stays-0 target =
    let q = pos 0 +ℤ capped false 0 (step_of (error_of 0 0 target) (divisor_of 0)) in
    limited-none (decayed true q) (decayed-at-most 0 0 q (omega arith) (idle-step-not-positive false 0 target (divisor_of 0)))

delay-is-0 : (average : ℕ) → delay_of 0 average ≡ 0
unfolding delay_of
delay-is-0 average = omega arith

allowance-fills : (allowance target : ℕ) → 0 < target → next_allowance allowance 0 0 0 target ≡ full_allowance
unfolding next_allowance
allowance-fills allowance target h = rw (lt-ltb 0 target h) refl

abbrev pub filled : Flow → Flow
filled f =
    record {
      prob = f.prob;
      old = f.old;
      allowance = full_allowance;
      accumulated = f.accumulated;
      average = f.average;
      measuring = f.measuring;
      start = f.start;
      counted = f.counted;
      count = f.count;
      bytes = f.bytes;
      head = f.head;
      tail = f.tail;
    }

pub ticked-idle : (target : ℕ) (f : Flow) → 0 < target → f.prob ≡ 0 → f.old ≡ 0 → f.bytes ≡ 0 → filled f ≡ ticked_flow target f
unfolding ticked_flow updated flow_with
ticked-idle target f h p o b =
    rw (p, o, b, delay-is-0 f.average, prob-stays-0 target, allowance-fills f.allowance target h, flag-kept f.measuring) refl
