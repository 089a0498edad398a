-- First in, first out: what a call adds to a chain's end and takes from its front, over lists of calls.
use mathlib.Core.Path.{◌≡◌, refl, sym, ◌∙◌}
use mathlib.Core.Bool.{Bool, true, false}
use mathlib.Core.List.{List, [], ◌∷◌, ◌++◌, append_assoc, append-nil, foldl}
use Prim.Native.Nat.{ℕ, ◌≤◌, ◌<◌}
use borrow.Author.Tests.{eqb-true, eqb-false}
use lib.Dec.{eqb}
use lib.ListN.{get_or, length, length-map, length-replicate, length-set, set}
use lib.Seq.{get_or-set_same, get_or-set_other}
use Rattle.calls.specs.Packets.{Packet}
use Rattle.store_guarantees.specs.AsLists.{all_held, list_after, list_outcome}
use Rattle.store_guarantees.specs.Chains.{contents, empty_chain}
use Rattle.store_guarantees.specs.FirstInFirstOut.{FirstInFirstOut, Run, entering, leaving, run, step}
use Rattle.store_guarantees.specs.Requests.{AllProper, Proper, Request, chain_of, put, take}
use Rattle.store_guarantees.specs.Sound.{Sound}
use Rattle.store_guarantees.proofs.AsLists.{refines}
use Rattle.store_guarantees.proofs.Fresh.{fresh-sound}
use Rattle.store_guarantees.proofs.Lists.{get_or-replicate-same}

abbrev Lists : Type 0
Lists = List (List Packet)

-- ── one call ──

-- what the chain held and what enters it is what leaves it and what it holds then
moved : (slots : ℕ) (C : Lists) (q : Request) →
    get_or C (chain_of q) [] ++ entering q (list_outcome slots C q) ≡ leaving (list_outcome slots C q) ++ list_after slots C q
moved slots C (put i handle size) = go (all_held slots C) refl
  where
    go : (b : Bool) → all_held slots C ≡ b →
        get_or C i [] ++ entering (put i handle size) (list_outcome slots C (put i handle size))
        ≡ leaving (list_outcome slots C (put i handle size)) ++ list_after slots C (put i handle size)
    go true e = rw (e, append-nil)
    go false e = rw e
moved slots C (take i) = go (get_or C i []) refl
  where
    go : (ps : List Packet) → get_or C i [] ≡ ps →
        get_or C i [] ++ entering (take i) (list_outcome slots C (take i)) ≡ leaving (list_outcome slots C (take i)) ++ list_after slots C (take i)
    go [] e = rw e
    go (p ∷ ps) e = rw (e, append-nil)

-- each list of E is that of L and then that of C
abbrev Joins : (E L C : Lists) → Type 0
Joins E L C = (j : ℕ) → get_or E j [] ≡ get_or L j [] ++ get_or C j []

joins_set : (E L C : Lists) (i : ℕ) (e l c : List Packet) → i < length E → i < length L → i < length C →
    Joins E L C → e ≡ l ++ c → Joins (set E i e) (set L i l) (set C i c)
joins_set E L C i e l c he hl hc old new j = go (eqb j i) refl
  where
    go : (b : Bool) → eqb j i ≡ b → get_or (set E i e) j [] ≡ get_or (set L i l) j [] ++ get_or (set C i c) j []
    go true t = rw (eqb-true j i t, get_or-set_same E i e [] he, get_or-set_same L i l [] hl, get_or-set_same C i c [] hc) new
    go false t =
        let apart = eqb-false j i t in
        rw (get_or-set_other E i j e [] apart, get_or-set_other L i j l [] apart, get_or-set_other C i j c [] apart) (old j)

-- ── lists of calls ──

pub record Kept (n : ℕ) (r : Run) : Type 0 where
  pub sound : Sound r.chains
  pub order : Joins r.entered r.left (contents r.chains)
  pub chains : length r.chains.chains ≡ n
  pub entered : length r.entered ≡ n
  pub left : length r.left ≡ n

pub proper-chain : (n : ℕ) (q : Request) → Proper n q → chain_of q < n
proper-chain n (put i handle size) p = p.0
proper-chain n (take i) p = p

step_kept : (n : ℕ) (r : Run) (q : Request) → Kept n r → Proper n q → Kept n (step r q)
step_kept n r q k p =
    let h = r.chains in
    let i = chain_of q in
    let slots = h.slots in
    let C = contents h in
    let o = list_outcome slots C q in
    let d = refines h q k.sound (rw k.chains p) in
    let there = proper-chain n q p in
    let long : length C ≡ n = rw (length-map, length-map) k.chains in
    let new : get_or r.entered i [] ++ entering q o ≡ (get_or r.left i [] ++ leaving o) ++ list_after slots C q =
    rw (k.order i) (append_assoc (get_or r.left i []) (get_or C i []) (entering q o) ∙ rw (moved slots C q) (sym (append_assoc (get_or r.left i []) (leaving o) (list_after slots C q)))) in
    record {
      sound = d.sound;
      order =
          rw (d.contents, d.outcome)
          (joins_set r.entered r.left C i (get_or r.entered i [] ++ entering q o) (get_or r.left i [] ++ leaving o) (list_after slots C q)
          (rw k.entered there) (rw k.left there) (rw long there) k.order new);
      chains = d.chains ∙ k.chains;
      entered = rw length-set k.entered;
      left = rw length-set k.left;
    }

steps-kept : (n : ℕ) (r : Run) (qs : List Request) → Kept n r → AllProper n qs → Kept n (foldl step r qs)
steps-kept n r [] k p = k
steps-kept n r (q ∷ qs) k (p, ps) = steps-kept n (step r q) qs (step_kept n r q k p) ps

pub run-kept : (slots n : ℕ) (handles sizes : List ℕ) (requests : List Request) →
    1 ≤ slots → slots ≤ 65536 → length handles ≡ slots → length sizes ≡ slots → AllProper n requests → Kept n (run slots n handles sizes requests)
run-kept slots n handles sizes requests low high lh ls p =
    let f = fresh-sound slots n handles sizes low high lh ls in
    steps-kept n _ requests
    (record {
      sound = f.0;
      order = λ j. rw (f.1, get_or-replicate-same {A = List Packet} n j []);
      chains = length-replicate n empty_chain;
      entered = length-replicate {A = List Packet} n [];
      left = length-replicate {A = List Packet} n [];
    }) p

pub first-in-first-out : FirstInFirstOut
first-in-first-out slots n handles sizes requests low high lh ls p = (run-kept slots n handles sizes requests low high lh ls p).order
