-- Question 2 for C calls, from the same over states.
use mathlib.Core.Path.{◌≡◌, refl, ap, sym, ◌∙◌}
use mathlib.Core.List.Memᴰ
use mathlib.Core.List.{List, map}
use Prim.Native.Nat.{ℕ}
use Rattle.ring_words.specs.Words.{state_of}
use Rattle.ring.specs.declared.State.{State}
use Rattle.ring_guarantees.proofs.Grace.{grace}
use Rattle.ring_c_guarantees.specs.CGrace.{CGrace}
use Rattle.ring_c_guarantees.specs.Fields.{allowance_in}
use Rattle.ring_c_guarantees.proofs.CTraces.{cut_of, entry_of, own-by-limits, own_in, own-returned, own-ticked}

allowance-held : (words : List ℕ) → allowance_in words ≡ (state_of words).pie.allowance.0
unfolding state_of
allowance-held w = refl

pub c-grace : CGrace
c-grace w calls before e later t q called accepted full a m =
    let here = own_in w calls _ q e (Memᴰ.append_right before (Memᴰ.head refl)) in
    let there = own_in w calls _ q a (Memᴰ.append_right before (Memᴰ.tail m)) in
    let filled = ap (λ (s : State). s.pie.allowance.0) (sym (own-returned e here)) ∙ sym (allowance-held e.returned) ∙ full in
    own-by-limits _ a there
    (grace (state_of w) calls (map entry_of before) (entry_of e) (map entry_of later) t (cut_of w calls before e later q)
    called (own-ticked e t here called accepted) filled (entry_of a) (Memᴰ.map entry_of m))
