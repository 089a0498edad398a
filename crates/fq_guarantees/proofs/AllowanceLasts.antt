-- Question 2 for each flow: it sheds load by PIE, so its allowances last.
use mathlib.Core.Path.{◌≡◌, ap, subst}
use Prim.Native.Nat.{ℕ, ◌+◌, ◌<◌}
use lib.ListN.{get_or-replicate}
use Rattle.pie.specs.Constants.{full_allowance}
use Rattle.pie_guarantees.specs.AllowanceLasts.{ByLimitsBefore, lasts_until}
use Rattle.pie_guarantees.proofs.AllowanceLasts as proved
use Rattle.fq_state.specs.Flow.{empty_flow}
use Rattle.fq_state.specs.Fresh.{fresh, fresh_refusal}
use Rattle.fq_state.specs.declared.Settings.{Settings}
use Rattle.fq_guarantees.specs.AllowanceLasts.{AllowanceLasts}
use Rattle.fq_guarantees.specs.FreshGrace.{FreshGrace}
use Rattle.fq_guarantees.specs.Grace.{Grace}
use Rattle.fq_guarantees.specs.Shedding.{flow_queue, own, told_of}
use Rattle.fq_guarantees.specs.SixtyFour.{fresh64}
use Rattle.fq_guarantees.proofs.FreshFormed.{fresh-accepted}
use Rattle.fq_guarantees.proofs.Sheds.{flow-sheds}

pub allowance-lasts : AllowanceLasts
allowance-lasts f start calls h = proved.allowance-lasts (flow_queue f) (flow-sheds f h) start calls

pub grace : Grace
grace f start calls h before e later q told full =
    proved.grace (flow_queue f) (flow-sheds f h) start calls before e later q (ap (told_of f e.answer.key_flow) told) full

-- a fresh flow has a full allowance, and the last tick is the start clock
pub fresh-flow : (f : ℕ) (settings : Settings) (clock : ℕ) → f < 64 → fresh_refusal settings clock ≡ 0 →
    own f (fresh settings clock) ≡ empty_flow full_allowance
unfolding fresh
fresh-flow f settings clock h e =
    rw (fresh-accepted settings clock e) (get_or-replicate 64 f (empty_flow full_allowance) (empty_flow 0) h)

fresh-last : (settings : Settings) (clock : ℕ) → fresh_refusal settings clock ≡ 0 → (fresh settings clock).common.last.0 ≡ clock
unfolding fresh
fresh-last settings clock e = rw (fresh-accepted settings clock e)

lasts-until : (f : ℕ) (settings : Settings) (clock : ℕ) → f < 64 → fresh_refusal settings clock ≡ 0 →
    lasts_until (flow_queue f) (fresh64 settings clock) ≡ clock + full_allowance
lasts-until f settings clock h e = rw (fresh-flow f settings clock h e, fresh-last settings clock e)

pub fresh-grace : FreshGrace
fresh-grace f settings clock calls h e a m =
    subst (λ end. ByLimitsBefore (flow_queue f) end a) (lasts-until f settings clock h e)
    (allowance-lasts f (fresh64 settings clock) calls h a m)
