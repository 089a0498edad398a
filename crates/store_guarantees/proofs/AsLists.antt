-- A call on sound chains is a call on their packets.
use mathlib.Core.Path.{◌≡◌, refl, ap, sym, ◌∙◌}
use mathlib.Core.Bool.{Bool, true, false}
use mathlib.Core.List.{List, [], ◌∷◌, map}
use Prim.Native.Nat.{ℕ}
use native.Mathlib.Omega.{arith}
use borrow.Author.Tests.{eq-eqb, leb-false, ne_eqb}
use lib.ListN.{length, length-map, length-replicate, length-set}
use lib.Seq.{set-get_or}
use Rattle.calls.specs.Packets.{Packet}
use Rattle.pie.specs.Verdicts.{total}
use Rattle.store_guarantees.specs.AsLists.{AsLists, Refined, Refines, all_held, list_outcome, list_outcomes}
use Rattle.store_guarantees.specs.Chains.{Chain, Chains, chain_at, contents, empty_chain, fresh_chains, packet_at, packets_in, places_of}
use Rattle.store_guarantees.specs.Requests.{AllProper, Request, after, outcomes, put, take}
use Rattle.store_guarantees.specs.Sound.{Sound, count_of, held}
use Rattle.store_guarantees.proofs.Fresh.{fresh-sound}
use Rattle.store_guarantees.proofs.Puts.{put-appends}
use Rattle.store_guarantees.proofs.Takes.{count_held, take-removes}
use Rattle.store_guarantees.proofs.Walks.{walk-length}

-- ── counts ──

lengths : (f : ℕ → Packet) (sizes : List ℕ) (cs : List Chain) → map length (map (map f) (map (places_of sizes) cs)) ≡ map count_of cs
lengths f sizes [] = refl
lengths f sizes (c ∷ cs) =
    cc (length-map (places_of sizes c) f, walk-length sizes c.ends.head c.count, lengths f sizes cs)

held-contents : (h : Chains) → total (map length (contents h)) ≡ held h
held-contents h = ap total (lengths (packet_at h.handles h.sizes) h.sizes h.chains)

-- ── one call ──

pub refines : Refines
refines h (put i handle size) s (there, small) = go (all_held h.slots (contents h)) refl
  where
    go : (b : Bool) → all_held h.slots (contents h) ≡ b → Refined h (put i handle size)
    go true e =
        let same = rw (held-contents h) at e in
        record {
          outcome = rw (e, same);
          contents = rw (same, e) (sym (set-get_or (contents h) i []));
          slots = rw same;
          chains = rw same;
          sound = rw same s;
        }
    go false e =
        let same = rw (held-contents h) at e in
        let d = put-appends h i handle size s there small (leb-false _ _ same) in
        record {
          outcome = rw (e, same, d.followed);
          contents = rw (same, d.followed, e) d.contents;
          slots = rw (same, d.followed);
          chains = rw (same, d.followed) (length-set h.chains i _);
          sound = rw (same, d.followed) d.sound;
        }
refines h (take i) s there = go (packets_in h i) refl
  where
    go : (ps : List Packet) → packets_in h i ≡ ps → Refined h (take i)
    go [] e =
        let none = eq-eqb (chain_at h i).count 0 (sym (count_held h i) ∙ ap length e) in
        record {
          outcome = rw (e, none);
          contents = rw (none, e) (rw e at (sym (set-get_or (contents h) i [])));
          slots = rw none;
          chains = rw none;
          sound = rw none s;
        }
    go (p ∷ ps) e =
        let d = take-removes h i p ps s there e in
        let n = sym (count_held h i) ∙ ap length e in
        let some = ne_eqb (chain_at h i).count 0 (λ z. omega arith) in
        record {
          outcome = rw (e, some, d.followed, d.packet);
          contents = rw (some, d.followed, e) d.contents;
          slots = rw (some, d.followed);
          chains = rw (some, d.followed) (length-set h.chains i _);
          sound = rw (some, d.followed) d.sound;
        }

-- ── lists of calls ──

pub proper-still : (m n : ℕ) (qs : List Request) → m ≡ n → AllProper n qs → AllProper m qs
proper-still m n qs e a = rw e a

as-lists-from : (h : Chains) (qs : List Request) → Sound h → AllProper (length h.chains) qs →
    outcomes h qs ≡ list_outcomes h.slots (contents h) qs
as-lists-from h [] s a = refl
as-lists-from h (q ∷ qs) s (a, others) =
    let r = refines h q s a in
    let later = as-lists-from (after h q) qs r.sound (proper-still _ _ qs r.chains others) in
    ap (λ o. o ∷ outcomes (after h q) qs) r.outcome
    ∙ ap (λ l. list_outcome h.slots (contents h) q ∷ l) (rw (r.slots, r.contents) at later)

pub as_lists : AsLists
as_lists slots n handles sizes requests low high lh ls a =
    let f = fresh-sound slots n handles sizes low high lh ls in
    as-lists-from (fresh_chains slots n handles sizes) requests f.0 (proper-still _ n requests (length-replicate n empty_chain) a)
    ∙ ap (λ l. list_outcomes slots l requests) f.1
