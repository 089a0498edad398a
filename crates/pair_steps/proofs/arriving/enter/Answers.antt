-- `enter`: the packet, the words of the backlog and of the ends, and then the verdict's.
use mathlib.Core.Path.{◌≡◌, ap, ◌∙◌}
use mathlib.Core.Bool.{cond}
use mathlib.Core.List.{List}
use Prim.Native.Nat.{ℕ}
use lib.Dec.{eqb}
use lib.ListN.{get_or, length, set}
use Rattle.pair_steps.specs.Written.{entered_words, settled_words}
use Rattle.pair_steps.proofs.Words.{queued-words, queued_words}
use Rattle.pair_steps.proofs.arriving.enter.Goals as goal

-- the words with the head of the queue, and what then enters
entered : (ow led : List ℕ) (size place : ℕ) → length ow ≡ 21 → led ≡ set ow 14 (cond (eqb (get_or ow 12 0) 0) place (get_or ow 14 0)) →
    queued_words led (get_or ow 12 0) size place ≡ entered_words ow size place
entered ow led size place h e = ap (λ (w : List ℕ). queued_words w (get_or ow 12 0) size place) e ∙ queued-words size place ow h

pub returns-clause-own_after : goal.returns-clause-own_after
returns-clause-own_after c =
    c.settle.ensures
    ∙ ap (λ (w : List ℕ). settled_words w c.args.clock c.args.found.accumulated.0 c.args.found.verdict)
    (entered c.args.own.now c.set_head.new.w c.args.packet.size c.args.place c.requires.own_len.0 c.set_head.ensures)
