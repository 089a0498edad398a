-- Worked numbers of docs/DOCSIS-PIE.md, part 7, as one table under one claim; the program `docsis_vectors` runs all of them. The target is
-- 10,000. A packet arrives at 15,000 bytes in a buffer of 30,000, with no allowance and an old delay of 10,000.
use Rattle.std.specs.Prelude.{◌≡◌, refl, true, List, [], ◌∷◌, ℕ, ◌^◌, ℤ, pos, neg_ℤ}
use Rattle.laws.specs.Every.{Every}
use Rattle.units.specs.Kinds.{micros, prob}
use Rattle.pie.specs.Update.{error_of, lookup}
use Rattle.pie.specs.declared.Verdict.{Verdict}
use Rattle.pie.specs.declared.Verdict.TheVariants.{Enqueued, DroppedEarly}
use Rattle.docsis_pie.specs.Constants.{active, inactive, quiescent}
use Rattle.docsis_pie.specs.Delay.{delay_of}
use Rattle.docsis_pie.specs.DropDecision.{decided, drawn, drawn_with, scaled_of}
use Rattle.docsis_pie.specs.Probability.{adjusted, capped, divisor_of, limited, next_prob, step_of, stepped_prob}
use Rattle.docsis_pie.specs.Update.{phase, phase_after, updated}
use Rattle.docsis_pie.specs.declared.DocsisPie.{DocsisPie}

-- what an example says
pub data Example : Type 0 where
  -- at a peak of 12,500,000 and a sustained rate of 1,250,000
  delay-is : (bytes credits : ℕ) → ℕ → Example
  step_is : (p delay old : ℕ) → ℤ → Example
  next-is : (p delay old : ℕ) → ℕ → Example
  -- a quiet tick of a quiescent flow: its activity and its reset time
  quiet-makes : (reset : ℕ) → (to reset_after : ℕ) → Example
  -- a tick of an active flow with this allowance, nothing queued and no old delay: its activity
  idle-makes : (allowance : ℕ) → (to : ℕ) → Example
  scaled-is : (p size : ℕ) → ℕ → Example
  -- a packet of 1,024 bytes: the verdict, and accumulated, allowance and activity after it
  decides : (at p accumulated u : ℕ) → Verdict → (accumulated_after allowance to : ℕ) → Example

abbrev pub flow : (p accumulated old allowance at : ℕ) → DocsisPie
flow p accumulated old allowance at =
    record { prob = prob p; accumulated = prob accumulated; old = micros old; allowance = micros allowance; phase = phase at 0 }

abbrev pub Holds : Example → Type 0
Holds (delay-is bytes credits d) = delay_of bytes credits 12500000 1250000 ≡ d
Holds (step_is p delay old s) = step_of (error_of delay old 10000) (divisor_of p) ≡ s
Holds (next-is p delay old r) = next_prob p 0 delay old 10000 ≡ r
Holds (quiet-makes reset to reset_after) = phase_after true (phase quiescent reset) ≡ phase to reset_after
Holds (idle-makes allowance to) = (updated (flow 0 0 0 allowance active) 10000 0 0 1 1).phase ≡ phase to 0
Holds (scaled-is p size r) = scaled_of p size ≡ r
Holds (decides at p accumulated u v accumulated_after allowance to) =
    decided (flow p accumulated 10000 0 at) 10000 30000 15000 1024 u
    ≡ record { verdict = v; pie = flow p accumulated_after 10000 allowance to }

-- −n
abbrev minus : ℕ → ℤ
minus n = neg_ℤ (pos n)

abbrev pub examples : List Example
examples =
    delay-is 100000 100000 8000 ∷ delay-is 100000 99999 7999  -- W1
    ∷ step_is 5000000 9900 10000 (minus 147639) ∷ next-is 5000000 9900 10000 4852361  -- W3
    ∷ next-is 429496730 50001 50001 515396075 ∷ next-is 429496729 170004 170004 515398222  -- W4
    ∷ next-is 429496730 200000 200000 515396075 ∷ next-is 429496730 200001 200001 601295420  -- W5
    ∷ next-is 1000000 4999 4999 815552 ∷ next-is 1000000 4999 5000 831859  -- W6
    ∷ next-is 58411555225 10000000 0 58411555225  -- W11
    ∷ quiet-makes 984000 quiescent 1000000 ∷ quiet-makes 984001 inactive 0  -- W14
    ∷ idle-makes 14000 quiescent ∷ idle-makes 16001 active  -- W15
    ∷ scaled-is (2 ^ 32) 870 3649044480 ∷ scaled-is (2 ^ 32) 871 3650722201  -- W17
    ∷ decides active 1 3650722199 0 Enqueued 3650722200 0 active ∷ decides active 1 3650722200 0 DroppedEarly 0 0 active  -- W19
    ∷ decides active 1 36507222015 4294967295 DroppedEarly 0 0 active  -- W20
    ∷ decides active (2 ^ 32) 0 3650722200 DroppedEarly 0 0 active  -- W22
    ∷ decides active (2 ^ 32) 0 3650722201 Enqueued 3650722201 0 active
    ∷ decides active 0 36507222016 0 Enqueued 0 0 active  -- W23
    ∷ decides quiescent (2 ^ 32) 0 0 DroppedEarly 0 142000 active ∷ decides inactive (2 ^ 32) 0 0 DroppedEarly 0 142000 active  -- W24
    ∷ []

infixr 5 ◌also◌
◌also◌ : {A B : Type 0} → A → B → A × B
◌also◌ a b = (a, b)

pub examples-hold : Every Holds examples
unfolding adjusted capped decided delay_of divisor_of drawn drawn_with error_of limited lookup next_prob
    phase_after scaled_of step_of stepped_prob updated
examples-hold =
    refl also refl  -- W1
    also refl also refl  -- W3
    also refl also refl  -- W4
    also refl also refl  -- W5
    also refl also refl  -- W6
    also refl  -- W11
    also refl also refl  -- W14
    also refl also refl  -- W15
    also refl also refl  -- W17
    also refl also refl  -- W19
    also refl  -- W20
    also refl also refl  -- W22
    also refl  -- W23
    also refl also refl  -- W24
    also tt
