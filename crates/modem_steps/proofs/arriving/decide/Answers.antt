-- `decide`: the first rule that holds.
use mathlib.Core.Path.{sym, ◌∙◌}
use Prim.Native.Nat.{◌+◌}
use native.Mathlib.Omega.{arith}
use borrow.Author.Tests.{eq-eqb, le-ltb, lt-ltb, ne_eqb}
use lib.ListN.{get_or, length-set}
use Rattle.modem_flow.proofs.Facts.{facts}
use Rattle.modem_words.specs.Words.{state_of}
use Rattle.modem_steps.proofs.Decisions.{allowance-decides, started-fits, started-long, bytes-decide, drawn-decides, none-cleared, none-decides, slots-decide, some-cleared, stays-decide}
use Rattle.modem_steps.proofs.arriving.decide.Goals as goal

pub overflow_add-bytes_full : goal.overflow_add-bytes_full
unfolding state_of
overflow_add-bytes_full c =
    let f = facts (state_of c.args.w.now) c.requires.1 in
    omega (arith, f.bytes_fit, f.buffer-high, c.requires.2)

pub returns-then-bytes_full : goal.returns-then-bytes_full
returns-then-bytes_full c =
    bytes-decide c.args.w.now c.requires.0 c.args.size (get_or c.args.calls.now (c.args.at + 4) 0) (lt-ltb _ _ c.if-bytes_full.true)

pub returns-then-slots_full : goal.returns-then-slots_full
returns-then-slots_full c =
    slots-decide c.args.w.now c.requires.0 c.args.size (get_or c.args.calls.now (c.args.at + 4) 0) (le-ltb _ _ c.if-bytes_full.false) (eq-eqb _ _ c.if-slots_full.true)

pub returns-then-burst : goal.returns-then-burst
returns-then-burst c =
    allowance-decides c.args.w.now c.requires.0 c.args.size (get_or c.args.calls.now (c.args.at + 4) 0) (le-ltb _ _ c.if-bytes_full.false) (ne_eqb _ _ c.if-slots_full.false) (sym c.in_allowance-burst.ensures ∙ c.if-burst.true)

pub stays_inactive-requires : goal.stays_inactive-requires
unfolding state_of
stays_inactive-requires c =
    let f = facts (state_of c.args.w.now) c.requires.1 in
    (length-set c.args.w.now 8 0 ∙ c.requires.0, omega (arith, f.bytes_fit, f.buffer-high))

pub returns-then-none : goal.returns-then-none
returns-then-none c =
    let r = c.stays_inactive.ensures in
    let none = eq-eqb _ _ c.if-none.true in
    none-decides c.args.w.now c.requires.0 c.args.size (get_or c.args.calls.now (c.args.at + 4) 0) (le-ltb _ _ c.if-bytes_full.false) (ne_eqb _ _ c.if-slots_full.false) (sym c.in_allowance-burst.ensures ∙ c.if-burst.false) _ _ _ (none-cleared c.args.w.now c.requires.0 none) r.value r.w_after none

pub stays_inactive-stays-requires : goal.stays_inactive-stays-requires
unfolding state_of
stays_inactive-stays-requires c =
    let f = facts (state_of c.args.w.now) c.requires.1 in
    (c.requires.0, omega (arith, f.bytes_fit, f.buffer-high))

pub returns-then-stays : goal.returns-then-stays
returns-then-stays c =
    let r = c.stays_inactive-stays.ensures in
    let some = some-cleared c.args.w.now c.requires.0 (ne_eqb _ _ c.if-none.false) in
    stays-decide c.args.w.now c.requires.0 c.args.size (get_or c.args.calls.now (c.args.at + 4) 0) (le-ltb _ _ c.if-bytes_full.false) (ne_eqb _ _ c.if-slots_full.false) (sym c.in_allowance-burst.ensures ∙ c.if-burst.false) _ _ _ some r.value r.w_after c.if-stays.true

pub draw-requires-clause-w_len : goal.draw-requires-clause-w_len
draw-requires-clause-w_len c =
    let r = c.stays_inactive-stays.ensures in
    let some = some-cleared c.args.w.now c.requires.0 (ne_eqb _ _ c.if-none.false) in
    (started-long c.args.w.now c.requires.0 c.args.size (get_or c.args.calls.now (c.args.at + 4) 0) (le-ltb _ _ c.if-bytes_full.false) (ne_eqb _ _ c.if-slots_full.false) (sym c.in_allowance-burst.ensures ∙ c.if-burst.false) _ _ _ some r.value r.w_after c.if-stays.false, c.requires.2, c.requires.3)

pub draw-requires-clause-w_bound : goal.draw-requires-clause-w_bound
unfolding state_of
draw-requires-clause-w_bound c =
    let f = facts (state_of c.args.w.now) c.requires.1 in
    let r = c.stays_inactive-stays.ensures in
    let some = some-cleared c.args.w.now c.requires.0 (ne_eqb _ _ c.if-none.false) in
    started-fits c.args.w.now c.requires.0 c.args.size (get_or c.args.calls.now (c.args.at + 4) 0) (le-ltb _ _ c.if-bytes_full.false) (ne_eqb _ _ c.if-slots_full.false) (sym c.in_allowance-burst.ensures ∙ c.if-burst.false) _ _ _ some r.value r.w_after c.if-stays.false f.prob-high f.accumulated-high f.old-high

pub returns : goal.returns
returns c =
    let r = c.stays_inactive-stays.ensures in
    let some = some-cleared c.args.w.now c.requires.0 (ne_eqb _ _ c.if-none.false) in
    drawn-decides c.args.w.now c.requires.0 c.args.size (get_or c.args.calls.now (c.args.at + 4) 0) (le-ltb _ _ c.if-bytes_full.false) (ne_eqb _ _ c.if-slots_full.false) (sym c.in_allowance-burst.ensures ∙ c.if-burst.false) _ _ _ some r.value r.w_after c.if-stays.false _ _ c.draw.ensures
