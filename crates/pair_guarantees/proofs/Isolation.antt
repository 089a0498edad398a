-- Isolation: both lists are answered as the queue alone answers its own calls, so they are answered alike.
use mathlib.Core.Path.{◌≡◌, ap, subst, sym, ◌∙◌}
use mathlib.Core.List.{List, []}
use mathlib.Core.Bool.{not, ◌&&◌}
use Prim.Native.Nat.{ℕ}
use lib.Dec.{eqb}
use lib.ListN.{length}
use Rattle.pie.specs.Constants.{full_allowance}
use Rattle.refusals.specs.Answer.{made}
use Rattle.pair_rules.specs.Fresh.{empty_state}
use Rattle.pair_rules.specs.Queues.{reserve_of}
use Rattle.pair_rules.specs.declared.Setup.{Setup}
use Rattle.pair_rules.specs.declared.Which.{Which}
use Rattle.pair_rules.specs.declared.Which.TheVariants.{Intercom, Passengers}
use Rattle.pair_guarantees.specs.Isolation.{Isolation, begin, fresh_for, own_calls, without_ends}
use Rattle.pair_guarantees.proofs.Alone.{View}
use Rattle.pair_guarantees.proofs.Following.{BelowAlone, alone_after, alone_answers, below-alone, follows}
use Rattle.pair_guarantees.proofs.Starting.{fresh-whole, made-fresh}
use Rattle.pair_guarantees.proofs.Whole.{Whole, view_of}

-- ── a fresh pair, as one queue sees it ──

module _ (slots : ℕ) (mine others : Setup) (handles sizes : List ℕ) where
  pub begin-whole : (w : Which) → (fresh_for w slots mine others).answer ≡ made → Whole (begin w slots mine others handles sizes)
  begin-whole Intercom e = fresh-whole slots mine others e handles sizes
  begin-whole Passengers e = fresh-whole slots others mine e handles sizes

  pub begin-reserve : (w : Which) → (fresh_for w slots mine others).answer ≡ made →
      reserve_of w (fresh_for w slots mine others).pair.shared ≡ mine.reserve
  begin-reserve Intercom e = rw (made-fresh slots mine others e)
  begin-reserve Passengers e = rw (made-fresh slots others mine e)

  -- nothing of the other's setup is in it
  abbrev pub start : View
  start =
      record {
        state = without_ends (empty_state mine.settings mine.clock.0 full_allowance);
        packets = [];
        unfit = not (eqb (length handles) slots && eqb (length sizes) slots);
      }

  pub begin-view : (w : Which) → (fresh_for w slots mine others).answer ≡ made → view_of w (begin w slots mine others handles sizes) ≡ start
  begin-view Intercom e = rw (made-fresh slots mine others e)
  begin-view Passengers e = rw (made-fresh slots others mine e)

-- ── the claim ──

pub isolation : Isolation
isolation w slots mine others others' handles sizes handles' sizes' calls calls' e e' lh lz same below =
    let first = begin w slots mine others handles sizes in
    let second = begin w slots mine others' handles' sizes' in
    let h = begin-whole slots mine others handles sizes w e in
    let h' = begin-whole slots mine others' handles' sizes' w e' in
    let n = mine.reserve in
    let views : view_of w first ≡ view_of w second =
    begin-view slots mine others handles sizes w e ∙ (rw (lh, lz)) ∙ sym (begin-view slots mine others' handles' sizes' w e') in
    let reserve = begin-reserve slots mine others handles sizes w e in
    let reserve' = begin-reserve slots mine others' handles' sizes' w e' in
    let b : BelowAlone n (view_of w first) (own_calls w calls) = below-alone w n first calls h reserve below in
    let b' : BelowAlone n (view_of w second) (own_calls w calls') =
    subst (λ rs. BelowAlone n (view_of w second) rs) same (subst (λ v. BelowAlone n v (own_calls w calls)) views b) in
    let f = follows w n first calls h reserve b in
    let f' = follows w n second calls' h' reserve' b' in
    let between : alone_answers (view_of w first) (own_calls w calls) ≡ alone_answers (view_of w second) (own_calls w calls') =
    ap (λ v. alone_answers v (own_calls w calls)) views ∙ ap (alone_answers (view_of w second)) same in
    let ends : alone_after (view_of w first) (own_calls w calls) ≡ alone_after (view_of w second) (own_calls w calls') =
    ap (λ v. alone_after v (own_calls w calls)) views ∙ ap (alone_after (view_of w second)) same in
    record {
      below = f'.below;
      answers = f.answers ∙ between ∙ sym f'.answers;
      state = ap (λ (v : View). v.state) (f.view ∙ ends ∙ sym f'.view);
    }
