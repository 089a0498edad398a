-- `admit`: a slot that was never taken, or the first freed one, unless its link leads nowhere.
use borrow.Author.Tests.{le-leb}
use mathlib.Core.Path.{◌≡◌, ap, sym, ◌∙◌}
use mathlib.Core.Bool.{true}
use mathlib.Core.Logic.{◌≢◌}
use Prim.Native.Nat.{ℕ, ◌-◌}
use native.Mathlib.Omega.{arith}
use lib.Dec.{leb}
use lib.ListN.{get_or, set}
use Rattle.store.specs.Put.{handles_after_put, sizes_after_put}
use Rattle.pair_words.specs.Words.{ends_of}
use Rattle.pair_steps.specs.Written.{entered_words, settled_words}
use Rattle.pair_steps.proofs.Words.{fresh-place, fresh-words, spare-place, spare-words}
use Rattle.pair_steps.proofs.arriving.admit.Goals as goal

-- a slot is spare
some : (n : ℕ) → n ≢ 0 → leb 1 n ≡ true
some n h = le-leb 1 n (omega (arith, h))

pub returns-then-spare-eq0-clause-stored : goal.returns-then-spare-eq0-clause-stored
returns-then-spare-eq0-clause-stored c =
    let sh = c.args.shared.now in
    let ow = c.args.own.now in
    let at = fresh-place sh c.if-spare-eq0.true in
    let e = c.enter.ensures in λ l. (
      fresh-words c.args.sizes.now sh c.requires.shared_len.0 c.if-spare-eq0.true,
      e.own_after
          ∙ ap (λ (n : ℕ). settled_words (entered_words ow c.args.packet.size n) c.args.clock c.args.found.accumulated.0 c.args.found.verdict)
          (sym at),
      e.handles_after ∙ ap (λ (n : ℕ). handles_after_put c.args.handles.now n c.args.packet.handle) (sym at),
      e.sizes_after ∙ ap (λ (n : ℕ). sizes_after_put (ends_of ow) (get_or ow 12 0) c.args.sizes.now n c.args.packet.size) (sym at),
    )

pub returns-clause-stored : goal.returns-clause-stored
returns-clause-stored c =
    let sh = c.args.shared.now in
    let ow = c.args.own.now in
    let f = c.follow-next.ensures in
    let one = some (get_or sh 5 0) c.if-spare-eq0.false in
    let at = spare-place sh one in
    let e = c.enter-2.ensures in λ l. (
      ap (λ (n : ℕ). set (set sh 4 n) 5 (get_or sh 5 0 - 1)) f
          ∙ spare-words c.args.sizes.now sh c.requires.shared_len.0 one,
      e.own_after
          ∙ ap (λ (n : ℕ). settled_words (entered_words ow c.args.packet.size n) c.args.clock c.args.found.accumulated.0 c.args.found.verdict)
          (sym at),
      e.handles_after ∙ ap (λ (n : ℕ). handles_after_put c.args.handles.now n c.args.packet.handle) (sym at),
      e.sizes_after ∙ ap (λ (n : ℕ). sizes_after_put (ends_of ow) (get_or ow 12 0) c.args.sizes.now n c.args.packet.size) (sym at),
    )
