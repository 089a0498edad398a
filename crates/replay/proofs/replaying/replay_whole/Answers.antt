-- `replay_whole`: 3 where the tables do not fit the log, else the rules over its records.
use mathlib.Core.Bool.{not}
use mathlib.Core.Path.{ap, refl}
use native.Mathlib.Omega.{arith}
use Rattle.ring.specs.Answer.{Reply}
use Rattle.replay.proofs.Contained.{contained, fits, fresh-ready, held, misfits}
use Rattle.replay.proofs.replaying.replay_whole.Goals as goal

pub get_header-h-requires : goal.get_header-h-requires
get_header-h-requires c =
    let a = c in
    let k = contained a.args.log.now a.args.offset a.args.count a.requires.log_value in omega (arith, k.headed)

pub returns-then-misfit-clause-value : goal.returns-then-misfit-clause-value
returns-then-misfit-clause-value c =
    let a = c in
    let l = a.args.log.now in
    let k = contained l a.args.offset a.args.count a.requires.log_value in
    let g = c.get_header-h in
    let e = misfits l a.args.handles.now a.args.sizes.now a.args.offset a.args.count k g.result g.ensures (ap not c.if-misfit.true) in
    rw e

pub returns-then-misfit-clause-fact : goal.returns-then-misfit-clause-fact
returns-then-misfit-clause-fact c =
    let a = c in
    let l = a.args.log.now in
    let k = contained l a.args.offset a.args.count a.requires.log_value in
    let g = c.get_header-h in
    let e = misfits l a.args.handles.now a.args.sizes.now a.args.offset a.args.count k g.result g.ensures (ap not c.if-misfit.true) in
    rw e (refl, refl)

pub run-requires-clause-count_in_bounds : goal.run-requires-clause-count_in_bounds
run-requires-clause-count_in_bounds c =
    let b = c in
    let a = b in
    let l = a.args.log.now in
    let k = contained l a.args.offset a.args.count a.requires.log_value in
    let g = b.get_header-h in
    let f = ap (λ (r : Reply). r.state) c.fresh-fresh.ensures in
    k.long

pub run-requires-clause-ready : goal.run-requires-clause-ready
run-requires-clause-ready c =
    let b = c in
    let a = b in
    let l = a.args.log.now in
    let k = contained l a.args.offset a.args.count a.requires.log_value in
    let g = b.get_header-h in
    let f = ap (λ (r : Reply). r.state) c.fresh-fresh.ensures in
    fresh-ready l a.args.handles.now a.args.sizes.now a.args.offset a.args.count k g.result g.ensures _ _ _ f c.encode.ensures (ap not b.if-misfit.false) a.requires.count_bound

pub returns-clause-value : goal.returns-clause-value
returns-clause-value c =
    let r = c in
    let b = r in
    let a = b in
    let l = a.args.log.now in
    let k = contained l a.args.offset a.args.count a.requires.log_value in
    let g = b.get_header-h in
    let f = ap (λ (r : Reply). r.state) r.fresh-fresh.ensures in
    let h = held l a.args.handles.now a.args.sizes.now a.args.offset a.args.count k g.result g.ensures _ _ _ f r.encode.ensures in
    let e = fits l a.args.handles.now a.args.sizes.now a.args.offset a.args.count k g.result g.ensures (ap not b.if-misfit.false) _ h in
    rw e r.run.ensures.value

pub returns-clause-fact : goal.returns-clause-fact
returns-clause-fact c =
    let r = c in
    let b = r in
    let a = b in
    let l = a.args.log.now in
    let k = contained l a.args.offset a.args.count a.requires.log_value in
    let g = b.get_header-h in
    let f = ap (λ (r : Reply). r.state) r.fresh-fresh.ensures in
    let h = held l a.args.handles.now a.args.sizes.now a.args.offset a.args.count k g.result g.ensures _ _ _ f r.encode.ensures in
    let e = fits l a.args.handles.now a.args.sizes.now a.args.offset a.args.count k g.result g.ensures (ap not b.if-misfit.false) _ h in
    rw e r.run.ensures.fact
