-- `State::decide`: rules 1 and 2, then the drop decision, which an inactive queue shares.
use borrow.Author.Tests.{eq-eqb, le-ltb, lt-ltb, ne_eqb}
use mathlib.Core.Path.{◌≡◌, refl}
use mathlib.Core.Bool.{Bool, true, false, cond}
use native.Mathlib.Omega.{arith}
use Rattle.units.specs.declared.Prob.{Prob}
use Rattle.pie.specs.DropDecision.{accumulated_after}
use Rattle.ring.specs.Arrival.{verdict_of}
use Rattle.ring.proofs.Activation.{decided-alike, inactive-zero, verdict-begun}
use Rattle.ring.proofs.Facts.{facts}
use Rattle.ring.proofs.State.decide.Goals as goal

-- what is accumulated stays where rules 1 and 2 decide, active or not
stays : (active : Bool) (sum : Prob) → sum ≡ cond active sum sum
stays true sum = refl
stays false sum = refl

pub overflow_add-bytes_full : goal.overflow_add-bytes_full
overflow_add-bytes_full c =
    let f = facts c.args.self c.requires.self_value in omega arith

pub decide-requires : goal.decide-requires
decide-requires c =
    let f = facts c.args.self c.requires.self_value in (f.prob-high, f.old-high, f.accumulated-high)

pub returns-then-bytes_full-clause-verdict_value : goal.returns-then-bytes_full-clause-verdict_value
unfolding verdict_of
returns-then-bytes_full-clause-verdict_value c = rw (verdict-begun, lt-ltb _ _ c.if-bytes_full.true) refl

pub returns-then-bytes_full-clause-accumulated_value : goal.returns-then-bytes_full-clause-accumulated_value
unfolding accumulated_after
returns-then-bytes_full-clause-accumulated_value c = stays c.args.self.active c.args.self.pie.accumulated

pub returns-then-slots_full-clause-verdict_value : goal.returns-then-slots_full-clause-verdict_value
unfolding verdict_of
returns-then-slots_full-clause-verdict_value c =
    rw (verdict-begun, le-ltb _ _ c.if-bytes_full.false, eq-eqb _ _ c.if-slots_full.true) refl

pub returns-then-slots_full-clause-accumulated_value : goal.returns-then-slots_full-clause-accumulated_value
unfolding accumulated_after
returns-then-slots_full-clause-accumulated_value c = stays c.args.self.active c.args.self.pie.accumulated

pub returns-clause-verdict_value : goal.returns-clause-verdict_value
unfolding verdict_of
returns-clause-verdict_value c =
    let s = c.args.self in
    let f = facts s c.requires.self_value in
    let d = c.decide.ensures in
    let alike = decided-alike s.active s.pie s.settings.target.0 s.backlog.bytes.0 c.args.ecn c.args.u _ _
    (inactive-zero s f) f.accumulated-high d.verdict_value d.accumulated_value in
    rw (verdict-begun, le-ltb _ _ c.if-bytes_full.false, ne_eqb _ _ c.if-slots_full.false) alike.0

pub returns-clause-accumulated_value : goal.returns-clause-accumulated_value
returns-clause-accumulated_value c =
    let s = c.args.self in
    let f = facts s c.requires.self_value in
    let d = c.decide.ensures in
    (decided-alike s.active s.pie s.settings.target.0 s.backlog.bytes.0 c.args.ecn c.args.u _ _
    (inactive-zero s f) f.accumulated-high d.verdict_value d.accumulated_value).1
