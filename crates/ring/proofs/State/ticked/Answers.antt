-- `State::ticked`: the update by the queue's profile, within a well-formed state's ranges, or clock and last tick alone.
use mathlib.Core.Path.{◌≡◌, sym, ◌∙◌}
use mathlib.Core.Bool.{Bool, true, false, not}
use Prim.Native.Nat.{ℕ}
use native.Mathlib.Omega.{arith}
use Rattle.units.specs.Kinds.{micros}
use Rattle.pie.specs.Update.{updated}
use Rattle.pie.specs.declared.Pie.{Pie}
use Rattle.pie.proofs.Ranges.{updated-old-le}
use Rattle.ring.specs.Activity.{is_calm, turns_inactive}
use Rattle.ring.specs.Tick.{ticked_state}
use Rattle.ring.specs.declared.State.{State}
use Rattle.ring.proofs.Activation.{plain-active}
use Rattle.ring.proofs.Facts.{facts}
use Rattle.ring.proofs.State.ticked.Goals as goal

-- the new state, from the algorithm's record and whether the queue is active
abbrev after : State → (clock : ℕ) (pie : Pie) (active : Bool) → State
after s clock pie active =
    record {
      settings = s.settings;
      clock = micros clock;
      last = micros clock;
      pie = pie;
      backlog = s.backlog;
      first = s.first;
      verdicts = s.verdicts;
      active = active;
    }

module _ (s : State) (clock : ℕ) where
  plain : (pie : Pie) → is_calm s.settings ≡ false → s.active ≡ true →
      pie ≡ updated s.pie false s.settings.target.0 s.backlog.bytes.0 → after s clock pie s.active ≡ ticked_state s clock
  unfolding ticked_state
  plain pie e f h = rw (h, e, f)

  calm : (pie : Pie) (turns : Bool) → is_calm s.settings ≡ true → s.active ≡ true →
      pie ≡ updated s.pie true s.settings.target.0 s.backlog.bytes.0 → turns ≡ turns_inactive s pie →
      after s clock pie (not turns) ≡ ticked_state s clock
  unfolding ticked_state
  calm pie turns e f h t = rw (t, h, e, f)

  inactive : s.active ≡ false → after s clock s.pie s.active ≡ ticked_state s clock
  unfolding ticked_state
  inactive e = rw e

pub update-pie-requires-clause-prob_le_whole : goal.update-pie-requires-clause-prob_le_whole
update-pie-requires-clause-prob_le_whole c =
    let a = c.before.before.before.before.before in
    let f = facts a.args.self a.requires in (f.prob-high, f.old-high, f.average-high)

pub update-pie-requires-clause-target_bound : goal.update-pie-requires-clause-target_bound
update-pie-requires-clause-target_bound c =
    let a = c.before.before.before.before.before in
    let f = facts a.args.self a.requires in (f.target-high, omega arith)

pub returns-then-not-calm : goal.returns-then-not-calm
returns-then-not-calm c =
    let u = c.before.before.before in
    let e = u.before in
    let k = e.before in
    let a = k.before.before.before.before in
    let plain-one : is_calm a.args.self.settings ≡ false = sym k.is_calm-calm.ensures ∙ e.if-not-calm.true in
    plain _ _ _ plain-one (plain-active _ (facts a.args.self a.requires) plain-one) u.update-pie.ensures

pub update-pie-requires-then-active-clause-prob_le_whole : goal.update-pie-requires-then-active-clause-prob_le_whole
update-pie-requires-then-active-clause-prob_le_whole c =
    let a = c.before.before.before.before.before.before in
    let f = facts a.args.self a.requires in (f.prob-high, f.old-high, f.average-high)

pub update-pie-requires-then-active-clause-target_bound : goal.update-pie-requires-then-active-clause-target_bound
update-pie-requires-then-active-clause-target_bound c =
    let a = c.before.before.before.before.before.before in
    let f = facts a.args.self a.requires in (f.target-high, omega arith)

pub turns_inactive-turns-requires-clause-self_value : goal.turns_inactive-turns-requires-clause-self_value
turns_inactive-turns-requires-clause-self_value c =
    let a = c.before.before.before.before.before.before.before in
    let s = a.args.self in
    a.requires

pub turns_inactive-turns-requires-clause-after_le_longest : goal.turns_inactive-turns-requires-clause-after_le_longest
turns_inactive-turns-requires-clause-after_le_longest c =
    let a = c.before.before.before.before.before.before.before in
    let s = a.args.self in
    rw c.update-pie-then-active.ensures (updated-old-le s.pie true s.settings.target.0 s.backlog.bytes.0)

pub returns-then-active : goal.returns-then-active
returns-then-active c =
    let t = c.before.before.before in
    let u = t.before in
    let e2 = u.before in
    let e1 = e2.before in
    calm _ _ _ _
    (sym e1.before.is_calm-calm.ensures ∙ e1.if-not-calm.false)
    e2.if-active.true
    u.update-pie-then-active.ensures
    t.turns_inactive-turns.ensures

pub returns : goal.returns
returns c = inactive _ _ c.before.before.before.before.if-active.false
