-- `run`: the replay of all records is the replay of those that are left, from the queue that the calls before have left.
use mathlib.Core.Path.{◌≡◌, refl, ap, sym, ◌∙◌}
use Prim.Native.Nat.{◌+◌, ◌*◌, ◌-◌}
use native.Mathlib.Omega.{arith}
use lib.ListN.{length}
use Rattle.ring_words.specs.Words.{state_of}
use Rattle.call_log.specs.Layout.{records_from}
use Rattle.ring_words.specs.Lent.{Lent, lent}
use Rattle.ring_steps.proofs.Kept.{leaves-long, ready-one}
use Rattle.replay.specs.Agreement.{request_of}
use Rattle.replay.specs.Replay.{queue_of, replay_from}
use Rattle.replay.proofs.Rounds.{ended, goes_on, left-queue, none_left, reached, ready-next, round, stopped}
use Rattle.replay.specs.Told.{field_number, refusal_told, verdict_told}
use Rattle.replay.proofs.Numbers.{no-field, some-field}
use Rattle.replay.proofs.running.run.Goals as goal

pub loop-i-init : goal.loop-i-init
loop-i-init c =
    let n = c.args.count in
    let e : n - 0 ≡ n = omega arith in
    let z : c.args.offset + 40 * 0 ≡ c.args.offset = omega arith in
    (refl, refl, rw (e, z), rw e c.requires.ready)

pub get-r-requires : goal.get-r-requires
get-r-requires c = omega (arith, c.requires.count_in_bounds)

pub call-c-requires : goal.call-c-requires
call-c-requires c =
    let l = c.loop-i in
    ready-one (lent l.w l.handles l.sizes) _ (omega (arith, c.loop-i-test.true)) l.invariant.3

pub returns-then-is_some-clause-value : goal.returns-then-is_some-clause-value
unfolding state_of
returns-then-is_some-clause-value c =
    let a = c in
    let l = c.loop-i in
    let k = c.call-c in
    let g = c.get-r in
    let log = a.args.log.now in
    let at = a.args.offset + 40 * l.i in
    let given = lent l.w l.handles l.sizes in
    let q = queue_of (state_of l.w) l.handles l.sizes in
    let q' = queue_of (state_of k.new.w) k.new.handles k.new.sizes in
    let rest = records_from (a.args.count - (l.i + 1)) log (at + 40) in
    let R = replay_from 0 (queue_of (state_of a.args.w.now) a.args.handles.now a.args.sizes.now)
    (records_from a.args.count log a.args.offset) in
    let e = reached R a.args.count l.i log at q g.result l.invariant.2 c.loop-i-test.true g.ensures in
    let left = left-queue given _ (request_of g.result) l.invariant.3.0.0 k.ensures.2 in
    let w = round q q' (k.ensures.0, k.ensures.1) left c.compare-field.ensures in
    let t = stopped l.i q q' g.result rest (refusal_told k.result) (verdict_told k.result) (field_number c.compare-field.result) w R
    a.args.handles.now a.args.sizes.now e (some-field c.compare-field.result (sym c.is_some.ensures ∙ c.if-is_some.true)) in
    t.0

pub returns-then-is_some-clause-fact : goal.returns-then-is_some-clause-fact
unfolding state_of
returns-then-is_some-clause-fact c =
    let a = c in
    let l = c.loop-i in
    let k = c.call-c in
    let g = c.get-r in
    let log = a.args.log.now in
    let at = a.args.offset + 40 * l.i in
    let given = lent l.w l.handles l.sizes in
    let q = queue_of (state_of l.w) l.handles l.sizes in
    let q' = queue_of (state_of k.new.w) k.new.handles k.new.sizes in
    let rest = records_from (a.args.count - (l.i + 1)) log (at + 40) in
    let R = replay_from 0 (queue_of (state_of a.args.w.now) a.args.handles.now a.args.sizes.now)
    (records_from a.args.count log a.args.offset) in
    let e = reached R a.args.count l.i log at q g.result l.invariant.2 c.loop-i-test.true g.ensures in
    let left = left-queue given _ (request_of g.result) l.invariant.3.0.0 k.ensures.2 in
    let w = round q q' (k.ensures.0, k.ensures.1) left c.compare-field.ensures in
    let t = stopped l.i q q' g.result rest (refusal_told k.result) (verdict_told k.result) (field_number c.compare-field.result) w R
    a.args.handles.now a.args.sizes.now e (some-field c.compare-field.result (sym c.is_some.ensures ∙ c.if-is_some.true)) in
    (t.1, t.2)

pub loop-i-preserved : goal.loop-i-preserved
unfolding state_of
loop-i-preserved c =
    let a = c in
    let l = c.loop-i in
    let k = c.call-c in
    let g = c.get-r in
    let log = a.args.log.now in
    let at = a.args.offset + 40 * l.i in
    let given = lent l.w l.handles l.sizes in
    let q = queue_of (state_of l.w) l.handles l.sizes in
    let q' = queue_of (state_of k.new.w) k.new.handles k.new.sizes in
    let rest = records_from (a.args.count - (l.i + 1)) log (at + 40) in
    let R = replay_from 0 (queue_of (state_of a.args.w.now) a.args.handles.now a.args.sizes.now)
    (records_from a.args.count log a.args.offset) in
    let e = reached R a.args.count l.i log at q g.result l.invariant.2 c.loop-i-test.true g.ensures in
    let left = left-queue given _ (request_of g.result) l.invariant.3.0.0 k.ensures.2 in
    let w = round q q' (k.ensures.0, k.ensures.1) left c.compare-field.ensures in
    let next : at + 40 ≡ a.args.offset + 40 * (l.i + 1) = omega arith in
    let long = leaves-long given (request_of g.result) in (
      ap (λ (x : Lent). length x.handles) k.ensures.2 ∙ long.0 ∙ l.invariant.0,
      ap (λ (x : Lent). length x.sizes) k.ensures.2 ∙ long.1 ∙ l.invariant.1,
      rw next at (goes_on l.i q q' g.result rest (refusal_told k.result) (verdict_told k.result) (field_number c.compare-field.result) w R e (no-field c.compare-field.result (sym c.is_some.ensures ∙ c.if-is_some.false))),
      ready-next given _ (request_of g.result) a.args.count l.i (omega (arith, c.loop-i-test.true)) k.ensures.2 l.invariant.3,
    )

pub returns-clause-value : goal.returns-clause-value
unfolding state_of
returns-clause-value c =
    let a = c in
    let l = c.loop-i in
    let log = a.args.log.now in
    let at = a.args.offset + 40 * l.i in
    let q = queue_of (state_of l.w) l.handles l.sizes in
    let R = replay_from 0 (queue_of (state_of a.args.w.now) a.args.handles.now a.args.sizes.now)
    (records_from a.args.count log a.args.offset) in
    let i : l.i ≡ a.args.count = omega (arith, c.loop-i-test.false) in
    let t = ended R a.args.count q a.args.handles.now a.args.sizes.now
    (none_left R a.args.count l.i log at q l.invariant.2 i) in
    t.0

pub returns-clause-fact : goal.returns-clause-fact
unfolding state_of
returns-clause-fact c =
    let a = c in
    let l = c.loop-i in
    let log = a.args.log.now in
    let at = a.args.offset + 40 * l.i in
    let q = queue_of (state_of l.w) l.handles l.sizes in
    let R = replay_from 0 (queue_of (state_of a.args.w.now) a.args.handles.now a.args.sizes.now)
    (records_from a.args.count log a.args.offset) in
    let i : l.i ≡ a.args.count = omega (arith, c.loop-i-test.false) in
    let t = ended R a.args.count q a.args.handles.now a.args.sizes.now
    (none_left R a.args.count l.i log at q l.invariant.2 i) in
    (t.1, t.2)
