-- Refusal 2 is never given from an accepted fresh call on: a fresh record is well formed, and calls keep it so.
use mathlib.Core.Path.{◌≡◌, refl}
use mathlib.Core.Bool.{true, false}
use mathlib.Core.Logic.{◌≢◌}
use Prim.Native.Nat.{ℕ}
use Rattle.refusals.proofs.Ordered.{after_first, first_test, past_first, test-fails, test_of}
use Rattle.calls.proofs.Traces.{along}
use Rattle.fq_state.specs.Fresh.{fresh, fresh_refusal}
use Rattle.fq_state.specs.State.{State}
use Rattle.fq_state.specs.WellFormed.{well_formed}
use Rattle.fq_state.specs.declared.Settings.{Settings}
use Rattle.fq_rules.specs.Answer.{refused}
use Rattle.fq_guarantees.specs.Calls.{Call, arrive, depart, reply, update}
use Rattle.fq_guarantees.specs.Kept.{Sound}
use Rattle.fq_guarantees.specs.NeverMalformed.{NeverMalformed}
use Rattle.fq_guarantees.specs.Lists.{fq_calls}
use Rattle.fq_guarantees.specs.Refusals.{rows_of}
use Rattle.fq_guarantees.specs.SixtyFour.{fresh-length, fresh64}
use Rattle.fq_guarantees.proofs.FreshFormed.{fresh-accepted, fresh-well-formed}
use Rattle.fq_guarantees.proofs.Kept.{kept}
use Rattle.fq_guarantees.proofs.Refusals.{calls-refused}

pub fresh-sound : (settings : Settings) (clock : ℕ) → fresh_refusal settings clock ≡ 0 → Sound (fresh settings clock)
unfolding fresh
fresh-sound settings clock e =
    let no = fresh-accepted settings clock e in
    record {
      flows_long = fresh-length settings clock;
      order-long = rw no;
      deficits-long = rw no;
      formed = fresh-well-formed settings clock e;
    }

well-formed-first : (s : State) (c : Call) → well_formed s ≡ true → first_test (rows_of s c) ≡ false
well-formed-first s (arrive handles sizes clock key handle size ecn u) w = rw w
well-formed-first s (depart handles sizes clock) w = rw w
well-formed-first s (update clock) w = rw w

others : (s : State) (c : Call) → test_of 2 (after_first (rows_of s c)) ≡ false
others s (arrive handles sizes clock key handle size ecn u) = refl
others s (depart handles sizes clock) = refl
others s (update clock) = refl

pub not-2 : (s : State) (c : Call) → Sound s → (reply s c).answer ≢ refused 2
not-2 s c h e =
    test-fails 2 (rows_of s c) (past_first 2 (rows_of s c) (well-formed-first s c h.formed) (others s c))
    ((calls-refused s c).lowest 2 e).0

pub never-malformed : NeverMalformed
never-malformed settings clock calls e =
    along fq_calls (λ s. Sound s.state) (λ a. a.answer.answer ≢ refused 2) (λ s h c. kept s.state c h)
    (λ s h c. not-2 s.state c h) (fresh64 settings clock) calls (fresh-sound settings clock e)
