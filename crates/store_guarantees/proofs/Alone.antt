-- A chain whose puts find a free slot answers as a list of packets by itself.
use mathlib.Core.Path.{◌≡◌, refl, sym, ◌∙◌}
use mathlib.Core.Bool.{Bool, true, false, true≢false}
use mathlib.Core.List.{List, [], ◌∷◌}
use Prim.Native.Nat.{ℕ, ◌<◌}
use borrow.Author.Tests.{eqb-true, eqb-false}
use lib.Dec.{eqb}
use lib.ListN.{get_or, length, length-map}
use lib.Seq.{get_or-set_same, get_or-set_other}
use Rattle.calls.specs.Packets.{Packet}
use Rattle.laws.proofs.Tests.{or-neither}
use Rattle.store_guarantees.specs.Alone.{Alone, alone_after, alone_outcome, alone_outcomes, any_full, is_full, own, own_outcomes}
use Rattle.store_guarantees.specs.Isolation.{Isolation}
use Rattle.store_guarantees.specs.AsLists.{Refined, all_held, list_after, list_outcome}
use Rattle.store_guarantees.specs.Chains.{contents, packets_in}
use Rattle.store_guarantees.specs.Requests.{Request, after, chain_of, outcome_of, put, take}
use Rattle.store_guarantees.proofs.AsLists.{proper-still, refines}
use Rattle.store_guarantees.proofs.FirstInFirstOut.{proper-chain}

-- a put that finds a free slot, and any take
not_full : (slots : ℕ) (C : List (List Packet)) (q : Request) → is_full (list_outcome slots C q) ≡ false →
    (list_outcome slots C q ≡ alone_outcome (get_or C (chain_of q) []) q) × (list_after slots C q ≡ alone_after (get_or C (chain_of q) []) q)
not_full slots C (put i handle size) f = go (all_held slots C) refl
  where
    go : (b : Bool) → all_held slots C ≡ b →
        (list_outcome slots C (put i handle size) ≡ alone_outcome (get_or C i []) (put i handle size))
        × (list_after slots C (put i handle size) ≡ alone_after (get_or C i []) (put i handle size))
    go true e = absurd (true≢false (rw e at f))
    go false e = rw e (refl, refl)
not_full slots C (take i) f = (refl, refl)

pub alone-holds : Alone
alone-holds i h [] s a f = refl
alone-holds i h (q ∷ qs) s (a, others) f = go (eqb (chain_of q) i) refl (alone-holds i (after h q) qs d.sound (proper-still _ _ qs d.chains others))
  where
    d : Refined h q
    d = refines h q s a

    go : (b : Bool) → eqb (chain_of q) i ≡ b →
        (any_full (own_outcomes i (after h q) qs) ≡ false → own_outcomes i (after h q) qs ≡ alone_outcomes (packets_in (after h q) i) (own i qs)) →
        own_outcomes i h (q ∷ qs) ≡ alone_outcomes (packets_in h i) (own i (q ∷ qs))
    go true e later =
        let C = contents h in
        let slots = h.slots in
        let mine : chain_of q ≡ i = eqb-true (chain_of q) i e in
        let there : chain_of q < length C = rw (length-map, length-map) (proper-chain (length h.chains) q a) in
        let neither = or-neither (is_full (outcome_of h q)) (any_full (own_outcomes i (after h q) qs)) (rw e at f) in
        let m = not_full slots C q (rw d.outcome at neither.0) in
        let first : outcome_of h q ≡ alone_outcome (get_or C i []) q = rw (← mine) (d.outcome ∙ m.0) in
        let next : packets_in (after h q) i ≡ alone_after (get_or C i []) q =
        rw (d.contents, ← mine, get_or-set_same C (chain_of q) (list_after slots C q) [] there) m.1 in
        rw e (cc (first, rw next at (later neither.1)))
    go false e later =
        let same : packets_in (after h q) i ≡ packets_in h i = rw d.contents (get_or-set_other (contents h) (chain_of q) i _ [] (λ x. eqb-false (chain_of q) i e (sym x))) in
        rw e (rw same at (later (rw e at f)))

pub isolation : Isolation
isolation i h h' qs qs' s s' a a' same owns f f' =
    alone-holds i h qs s a f ∙ rw (same, owns) (sym (alone-holds i h' qs' s' a' f'))
