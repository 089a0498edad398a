-- `update_probability`: the tests in their order, then the words in which the new state differs.
use borrow.Author.Tests.{le-ltb, lt-ltb}
use mathlib.Core.Path.{refl, sym, ap, ◌∙◌}
use mathlib.Core.List.{List}
use Prim.Native.Nat.{ℕ}
use native.Mathlib.Omega.{arith}
use Rattle.pie.specs.declared.Pie.{Pie}
use Rattle.pie_words.specs.Words.{updated_words}
use Rattle.pair_rules.proofs.Symmetry.{well-formed-seen}
use Rattle.pair_rules.proofs.WhenAccepted.{known}
use Rattle.pair_words.specs.Words.{shared_of, state_of}
use Rattle.std.proofs.lemmas.Result.{err_from_is_err_and}
use Rattle.pair_steps.proofs.Checks.{passes, refuses}
use Rattle.pair_steps.proofs.Replies.{tick-early, tick-late, tick-made, ticked-gives}
use Rattle.pair_steps.proofs.Words.{clocked_words, ticked-words}
use Rattle.pair_steps.proofs.ticking.update_probability.Goals as goal

pub returns-in_err-check_clock : goal.returns-in_err-check_clock
returns-in_err-check_clock c =
    let p = err_from_is_err_and c.from_residual.result c.from_residual.ensures.1 in
    let e = refuses _ _ _ c.in_err-check_clock.ensures in
    rw (
      p.1,
      p.2,
      e.1,
      tick-late (shared_of c.args.shared.now) (state_of c.args.own.now) (state_of c.args.other.now) c.args.clock
          c.args.which c.requires.formed e.0,
    ) (refl, refl)

pub overflow_add-own : goal.overflow_add-own
unfolding state_of
overflow_add-own c =
    let s = shared_of c.args.shared.now in
    let o = state_of c.args.own.now in
    let t = state_of c.args.other.now in
    let w = c.args.which in
    let k = known w s o t (sym (well-formed-seen w s o t) ∙ c.requires.formed) in
    omega (arith, k.own.last-high, k.own.clock-high)

pub returns-then-clock-own : goal.returns-then-clock-own
unfolding state_of
returns-then-clock-own c =
    rw (tick-early (shared_of c.args.shared.now) (state_of c.args.own.now) (state_of c.args.other.now) c.args.clock
    c.args.which c.requires.formed (passes _ _ _ c.in_ok-check_clock.ensures) (lt-ltb _ _ c.if-clock-own.true)) (refl, refl)

pub update-requires-clause-k_bound : goal.update-requires-clause-k_bound
unfolding state_of
update-requires-clause-k_bound c =
    let s = shared_of c.args.shared.now in
    let o = state_of c.args.own.now in
    let t = state_of c.args.other.now in
    let w = c.args.which in
    let k = (known w s o t (sym (well-formed-seen w s o t) ∙ c.requires.formed)).own in
    (k.prob-high, k.old-high, k.average-high, omega (arith, k.bytes_fit, k.buffer-high), k.target-high)

pub returns : goal.returns
unfolding state_of
returns c =
    let s = shared_of c.args.shared.now in
    let o = state_of c.args.own.now in
    let t = state_of c.args.other.now in
    let w = c.args.which in
    let ow = c.args.own.now in
    let clock = c.args.clock in
    let made = tick-made s o t clock w c.requires.formed (passes _ _ _ c.in_ok-check_clock.ensures) (le-ltb _ _ c.if-clock-own.false) in
    let words =
    ap (λ (l : List ℕ). clocked_words l clock) c.update.ensures.w_after
    ∙ ap (λ (p : Pie). clocked_words (updated_words ow 4 p) clock) c.update.ensures.value
    ∙ ticked-words clock ow c.requires.own_len in
    ticked-gives w s o t clock ow _ made words
