-- A packet that is put is the last of its chain, every other chain stays, and the chains are sound.
use mathlib.Core.Path.{◌≡◌, refl, ap, subst, sym, ◌∙◌}
use mathlib.Core.Bool.{Bool, true, false, cond}
use mathlib.Core.Logic.{◌≢◌}
use mathlib.Core.List.{List, [], ◌∷◌, ◌++◌, map, map-append}
use Prim.Native.Nat.{ℕ, zero, suc, ◌+◌, ◌*◌, ◌≤◌, ◌<◌}
use native.Mathlib.Numerals.{add-one}
use native.Mathlib.Omega.{arith}
use borrow.Author.Tests.{eq-eqb, le-leb, lt-leb, ne_eqb}
use lib.Dec.{eqb, leb, ltb}
use lib.ListN.{get_or-map, get_or, length, length-map, length-set, set}
use lib.Seq.{get_or-set_other, set_comm}
use Rattle.pie.specs.Verdicts.{total}
use Rattle.store.specs.Put.{ends_after_put, sizes_after_put}
use Rattle.store.specs.Words.{link_at, size_at}
use Rattle.store_guarantees.specs.Calls.{PutAppends}
use Rattle.store_guarantees.specs.Chains.{Chain, Chains, chain_at, contents, empty_chain, packet_at, packets_in, places, places_of, walk}
use Rattle.store_guarantees.specs.Sound.{Sound, count_of, last_of, times}
use Rattle.store_guarantees.proofs.Claims.{Claim, claimable, one-high}
use Rattle.store_guarantees.proofs.Lists.{at_set, map-set, total-covers, total-set}
use Rattle.store_guarantees.proofs.Packets.{all-packets-written, packet-found, packets-kept}
use Rattle.store_guarantees.proofs.Walks.{ends_set, last-in, last_of-append, link_to, none-walked, once, others-walked, times-append, walk-extend, walk-set}

-- the chain with one more packet
abbrev longer : Chain → (place : ℕ) → Chain
longer c place = record { ends = ends_after_put c.ends c.count place; count = c.count + 1 }

-- ── the table of sizes after the put ──

module _ (h : Chains) (s : Sound h) (i : ℕ) (there : i < length h.chains) (k : Claim h) (size : ℕ) where
  -- the free place is in no list
  pub alone : total (map (times k.place) (places h)) ≡ 0
  alone = omega (arith, s.parted k.place, k.parted k.place, once k.place, one-high (ltb k.place k.store.used))

  pub not-freed : times k.place (walk h.sizes k.store.freed k.store.spare) ≡ 0
  not-freed = omega (arith, s.parted k.place, k.parted k.place, once k.place, one-high (ltb k.place k.store.used))

  abbrev written : List ℕ
  written = set h.sizes k.place size

  abbrev after : List ℕ
  after = sizes_after_put (chain_at h i).ends (chain_at h i).count h.sizes k.place size

  pub record Joined : Type 0 where
    pub walked : map (places_of after) (set h.chains i (longer (chain_at h i) k.place))
        ≡ set (places h) i (get_or (places h) i [] ++ k.place ∷ [])
    pub freed : walk after k.store.freed k.store.spare ≡ walk h.sizes k.store.freed k.store.spare
    pub packets : (handles : List ℕ) → packet_at handles after ≡ packet_at handles written
    pub long : length after ≡ h.slots

  here : get_or (places h) i [] ≡ places_of h.sizes (chain_at h i)
  here = get_or-map (places_of h.sizes) h.chains i empty_chain

  same_walks : map (places_of written) h.chains ≡ places h
  same_walks = none-walked h.sizes k.place size h.chains alone

  joined-empty : (chain_at h i).count ≡ 0 → Joined
  unfolding sizes_after_put ends_after_put
  joined-empty none =
      let test = eq-eqb (chain_at h i).count 0 none in
      let few = lt-leb 1 (chain_at h i).count (omega arith) in
      record {
        walked = rw (test, few, map-set, same_walks, here, none);
        freed = rw few (walk-set h.sizes k.place size k.store.freed k.store.spare not-freed);
        packets = λ handles. rw few;
        long = rw (few, length-set) s.sizes;
      }

  joined-more : (n : ℕ) → (chain_at h i).count ≡ suc n → Joined
  unfolding sizes_after_put ends_after_put
  joined-more n some =
      let c = chain_at h i in
      let first = c.ends.head in
      let last = c.ends.tail in
      let test : eqb c.count 0 ≡ false = rw some (ne_eqb (suc n) 0 (λ e. omega arith)) in
      let more : leb 1 c.count ≡ true = le-leb 1 c.count (omega arith) in
      let walked : get_or (places h) i [] ≡ walk written first (suc n) =
      rw (← same_walks) (get_or-map (places_of written) h.chains i empty_chain ∙ ap (λ m. walk written first m) some) in
      let end : last_of first (walk written (link_at written first) n) ≡ last = rw walked at (s.last i) in
      let seen : 1 ≤ times last (get_or (places h) i []) = rw walked (subst (λ l. 1 ≤ times l (walk written first (suc n))) end (last-in first (walk written (link_at written first) n))) in
      let covers = total-covers (times last) (places h) i [] refl in
      let covers' = total-covers (times k.place) (places h) i [] refl in
      let apart : last ≢ k.place = λ e. omega (arith, alone, covers', rw e at seen) in
      let same : get_or written last 0 ≡ get_or h.sizes last 0 = get_or-set_other h.sizes k.place last size 0 apart in
      let swapped : set (set h.sizes last (size_at h.sizes last + 65536 * k.place)) k.place size ≡ link_to written last k.place =
      set_comm h.sizes last k.place (size_at h.sizes last + 65536 * k.place) size apart ∙ rw same in
      let bound' = one-high (ltb last k.store.used) in
      let parts = s.parted last in
      let parts' = k.parted last in
      let inside : last < length written = rw length-set (omega (arith, s.sizes, s.tails i)) in
      let fewest : times last (get_or (places h) i []) ≤ 1 = omega arith in
      let extended = walk-extend written last k.place inside first n end (rw walked at fewest) in
      let c' : Chain = record { ends = record { head = first; tail = k.place }; count = c.count + 1 } in
      let grown : walk (link_to written last k.place) first (c.count + 1) ≡ get_or (places h) i [] ++ k.place ∷ [] = rw (some, add-one (suc n), walked) extended in
      let kept = walk-set h.sizes k.place size k.store.freed k.store.spare not-freed in
      let free : times last (walk h.sizes k.store.freed k.store.spare) ≡ 0 = omega arith in
      let word = size_at written last + 65536 * k.place in
      record {
        walked = rw (more, test, swapped) (others-walked written last word h.chains i c' there (rw same_walks (omega arith)) ∙ rw (same_walks, grown));
        freed = rw (more, swapped) (walk-set written last word k.store.freed k.store.spare (rw kept free) ∙ kept);
        packets = λ handles. rw (more, swapped) (packets-kept handles written last k.place inside);
        long = rw (more, length-set, length-set) s.sizes;
      }

  pub joined-walks : Joined
  joined-walks = go (chain_at h i).count refl
    where
      go : (n : ℕ) → (chain_at h i).count ≡ n → Joined
      go zero e = joined-empty e
      go (suc n) e = joined-more n e

-- ── the chains after the put ──

module _ (h : Chains) (s : Sound h) (i : ℕ) (there : i < length h.chains) (k : Claim h) (handle size : ℕ) (small : size < 65536) where
  abbrev chains : Chains
  chains =
      record {
        slots = h.slots;
        store = k.store;
        chains = set h.chains i (longer (chain_at h i) k.place);
        handles = set h.handles k.place handle;
        sizes = sizes_after_put (chain_at h i).ends (chain_at h i).count h.sizes k.place size;
      }

  put-contents : contents chains ≡ set (contents h) i (packets_in h i ++ record { handle = handle; size = size } ∷ [])
  put-contents =
      let j = joined-walks h s i there k size in
      let handles' = set h.handles k.place handle in
      let sizes' = set h.sizes k.place size in
      let pk' = packet_at handles' sizes' in
      let olds : map (map pk') (places h) ≡ contents h = all-packets-written h.handles h.sizes k.place handle size (places h) (alone h s i there k size) in
      let new : pk' k.place ≡ record { handle = handle; size = size } = packet-found h.handles h.sizes k.place handle size (omega (arith, k.inside, s.handles)) (omega (arith, k.inside, s.sizes)) small in
      let old : map pk' (get_or (places h) i []) ≡ packets_in h i = sym (get_or-map (map pk') (places h) i []) ∙ ap (λ l. get_or l i []) olds in
      rw (j.walked, j.packets handles', map-set, olds, map-append, old, new)

  new-head : (b : Bool) → cond b k.place (chain_at h i).ends.head < h.slots
  new-head true = k.inside
  new-head false = s.heads i

  put-sound : Sound chains
  unfolding ends_after_put
  put-sound =
      let j = joined-walks h s i there k size in
      let c' = longer (chain_at h i) k.place in
      let more = get_or (places h) i [] ++ k.place ∷ [] in
      let listed : i < length (places h) = rw length-map there in
      record {
        slots = s.slots;
        used = k.used;
        handles = rw length-set s.handles;
        sizes = j.long;
        freed = k.freed;
        heads = λ m. at_set (λ c. c.ends.head < h.slots) h.chains i m c' empty_chain there (new-head (eqb (chain_at h i).count 0)) (s.heads m);
        tails = λ m. at_set (λ c. c.ends.tail < h.slots) h.chains i m c' empty_chain there k.inside (s.tails m);
        last = rw j.walked (ends_set h.chains (places h) i c' more there listed (last_of-append k.place (get_or (places h) i []) k.place) s.last);
        parted = λ p.
            rw (j.walked, j.freed)
            (omega (
              arith,
              total-set (times p) (places h) i more [] listed,
              times-append p (get_or (places h) i []) (k.place ∷ []),
              s.parted p,
              k.parted p,
            ));
        counted = omega (arith, total-set count_of h.chains i c' empty_chain there, s.counted, k.counted);
      }

pub put-appends : PutAppends
put-appends h i handle size s there small room =
    let k = claimable h s room in
    record {
      followed = k.followed;
      place = rw k.found k.inside;
      contents = rw k.found (put-contents h s i there k handle size small);
      sound = rw (k.found, k.left) (put-sound h s i there k handle size small);
    }
