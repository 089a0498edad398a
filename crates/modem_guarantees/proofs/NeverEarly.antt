-- Rules 3 and 4 to 11: with an allowance, or with p 0, nothing is dropped early.
use mathlib.Core.Path.{◌≡◌, refl}
use mathlib.Core.Bool.{false, true≢false}
use mathlib.Core.Logic.{◌⊎◌, inl, inr}
use Prim.Native.Nat.{ℕ, ◌<◌}
use borrow.Author.Tests.{lt-ltb}
use Rattle.units.specs.Kinds.{none}
use Rattle.laws.proofs.Choice.{either}
use Rattle.pie.specs.Verdicts.{is_early}
use Rattle.pie.specs.declared.Verdict.TheVariants.{DroppedBytes, DroppedSlots, DroppedEarly}
use Rattle.docsis_pie.specs.DropDecision.{cleared, decided, drawn_with, enqueued_with, in_allowance, stays_inactive}
use Rattle.docsis_pie.specs.declared.Decided.{Decided}
use Rattle.docsis_pie.specs.declared.DocsisPie.{DocsisPie}
use Rattle.docsis_pie.proofs.NeverEarly.{zero-enqueues}
use Rattle.modem_flow.specs.declared.State.{State}
use Rattle.modem_flow.specs.Arrival.{bytes_full, decision_of, slots_full, turned_away}
use Rattle.modem_flow.proofs.Replies as flow-replies
use Rattle.modem_guarantees.specs.NeverEarly.{NeverEarly}

-- a decision that does not drop early
abbrev Passes : Decided → Type 0
Passes d = is_early d.verdict ≡ false

zero-passes : (pie : DocsisPie) (target buffer bytes size u : ℕ) → pie.prob.0 ≡ none → Passes (decided pie target buffer bytes size u)
unfolding decided drawn_with
zero-passes pie target buffer bytes size u z =
    either Passes (in_allowance pie) (enqueued_with pie) _ refl
    (either Passes (stays_inactive pie buffer bytes) (enqueued_with (cleared pie)) _ refl
    (rw (zero-enqueues pie target bytes size u z)))

allowed-passes : (pie : DocsisPie) (target buffer bytes size u : ℕ) → 0 < pie.allowance.0 → Passes (decided pie target buffer bytes size u)
unfolding decided
allowed-passes pie target buffer bytes size u h = rw (lt-ltb 0 pie.allowance.0 h)

decision-passes : (s : State) (size u : ℕ) → (s.pie.prob.0 ≡ none) ⊎ (0 < s.pie.allowance.0) → Passes (decision_of s size u)
unfolding decision_of
decision-passes s size u g =
    either Passes (bytes_full s size) (turned_away s DroppedBytes) _ refl
    (either Passes (slots_full s) (turned_away s DroppedSlots) _ refl
    (go g))
  where
    go : (s.pie.prob.0 ≡ none) ⊎ (0 < s.pie.allowance.0) →
        Passes (decided s.pie s.settings.target.0 s.settings.buffer.0 s.backlog.bytes.0 size u)
    go (inl z) = zero-passes s.pie s.settings.target.0 s.settings.buffer.0 s.backlog.bytes.0 size u z
    go (inr h) = allowed-passes s.pie s.settings.target.0 s.settings.buffer.0 s.backlog.bytes.0 size u h

pub never-early : NeverEarly
never-early s row handles sizes clock handle size u g e =
    let found : (decision_of s size u).verdict ≡ DroppedEarly = (flow-replies.decided s row handles sizes clock size u DroppedEarly e).1 in
    let passes = decision-passes s size u g in
    true≢false (rw found at passes)
