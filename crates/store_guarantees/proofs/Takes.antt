-- A packet that is taken was the first of its chain, every other chain stays, and the chains are sound.
use mathlib.Core.Path.{◌≡◌, refl, ap, ◌∙◌}
use mathlib.Core.List.{List, [], ◌∷◌, map}
use Prim.Native.Nat.{ℕ, zero, suc, ◌+◌, ◌*◌, ◌-◌, ◌≤◌, ◌<◌}
use native.Mathlib.Numerals.{add-one}
use native.Mathlib.Omega.{arith}
use lib.Dec.{ltb}
use lib.ListN.{get_or-map, get_or, length, length-map, length-set, set}
use lib.Seq.{get_or-set_same, set-get_or}
use Rattle.calls.specs.Packets.{Packet}
use Rattle.pie.specs.Verdicts.{total}
use Rattle.store.specs.Following.{followed}
use Rattle.store.specs.Words.{link_at}
use Rattle.store_guarantees.specs.Calls.{CountHeld, TakeDone, TakeRemoves}
use Rattle.store_guarantees.specs.Chains.{Chain, Chains, chain_at, contents, empty_chain, freed_places, packet_at, packets_in, places, places_of, walk}
use Rattle.store_guarantees.specs.Sound.{Sound, count_of, last_of, times}
use Rattle.store_guarantees.proofs.Claims.{followed-inside, link-kept, listed-inside, one-high, walk-followed}
use Rattle.store_guarantees.proofs.Lists.{at_set, map-set, total-covers, total-set}
use Rattle.store_guarantees.proofs.Packets.{all-packets-written}
use Rattle.store_guarantees.proofs.Walks.{ends_set, once, others-walked, walk-length, walk-set}

-- what a chain ends with, it ends with when its head has left
last_of-rest : (last p : ℕ) (ps : List ℕ) → last_of p ps ≡ last → last_of last ps ≡ last
last_of-rest last p [] e = refl
last_of-rest last p (q ∷ ps) e = e

module _ (h : Chains) (s : Sound h) (i : ℕ) (there : i < length h.chains) (n : ℕ) (some : (chain_at h i).count ≡ suc n) where
  abbrev place : ℕ
  place = (chain_at h i).ends.head

  abbrev next : ℕ
  next = followed h.sizes place (suc n)

  abbrev after : List ℕ
  after = set h.sizes place (65536 * h.store.freed)

  abbrev later : List ℕ
  later = walk h.sizes (link_at h.sizes place) n

  abbrev shorter : Chain
  shorter = record { ends = record { head = next; tail = (chain_at h i).ends.tail }; count = n }

  abbrev chains : Chains
  chains =
      record {
        slots = h.slots;
        store = record { used = h.store.used; freed = place; spare = h.store.spare + 1 };
        chains = set h.chains i shorter;
        handles = h.handles;
        sizes = after;
      }

  here : get_or (places h) i [] ≡ place ∷ later
  here = get_or-map (places_of h.sizes) h.chains i empty_chain ∙ ap (λ m. walk h.sizes place m) some

  covers : (p : ℕ) → times p (get_or (places h) i []) ≤ total (map (times p) (places h))
  covers p = total-covers (times p) (places h) i [] refl

  in-first : times place (get_or (places h) i []) ≡ 1 + times place later
  in-first = rw here (omega (arith, once place))

  in-later : times place later ≡ 0
  in-later = omega (arith, in-first, covers place, s.parted place, one-high (ltb place h.store.used))

  not-freed : times place (freed_places h) ≡ 0
  not-freed = omega (arith, in-first, covers place, s.parted place, one-high (ltb place h.store.used))

  inside : place < length h.sizes
  inside = omega (arith, s.heads i, s.sizes)

  next-good : next < h.slots
  next-good =
      followed-inside h.sizes place n h.slots (s.heads i)
      (λ p k. listed-inside h s p (let c = covers p in let k' : 1 ≤ times p (get_or (places h) i []) = rw here k in omega arith))

  listed : i < length (places h)
  listed = rw length-map there

  walked : places chains ≡ set (places h) i later
  walked =
      others-walked h.sizes place _ h.chains i _ there (omega (arith, in-first, covers place, s.parted place, one-high (ltb place h.store.used)))
      ∙ ap (λ l. set (places h) i l) (walk-set h.sizes place _ next n (rw (walk-followed h.sizes place n) in-later) ∙ walk-followed h.sizes place n)

  freed : freed_places chains ≡ place ∷ freed_places h
  freed =
      let first = h.store.freed in
      let written = get_or-set_same h.sizes place (65536 * first) 0 inside in
      let link : link_at after place ≡ first = rw written (omega arith) in
      rw (add-one h.store.spare, link) (ap (λ l. place ∷ l) (walk-set h.sizes place (65536 * first) first h.store.spare not-freed))

  abbrev packet : ℕ → Packet
  packet = packet_at h.handles h.sizes

  head : packets_in h i ≡ packet place ∷ map packet later
  head = get_or-map (map packet) (places h) i [] ∙ ap (map packet) here

  -- the place that was left is in no chain, so the word that is written there changes no packet
  gone : total (map (times place) (set (places h) i later)) ≡ 0
  gone =
      omega (
        arith,
        total-set (times place) (places h) i later [] listed,
        in-first,
        in-later,
        covers place,
        s.parted place,
        one-high (ltb place h.store.used),
      )

  take-contents : contents chains ≡ set (contents h) i (map packet later)
  take-contents =
      let same = all-packets-written h.handles h.sizes place (get_or h.handles place 0) (65536 * h.store.freed) (set (places h) i later) gone in
      rw walked (rw (set-get_or h.handles place 0) at same ∙ map-set (map packet) (places h) i later)

  take-sound : Sound chains
  take-sound =
      record {
        slots = s.slots;
        used = s.used;
        handles = s.handles;
        sizes = rw length-set s.sizes;
        freed = s.heads i;
        heads = λ m. at_set (λ c. c.ends.head < h.slots) h.chains i m shorter empty_chain there next-good (s.heads m);
        tails = λ m. at_set (λ c. c.ends.tail < h.slots) h.chains i m shorter empty_chain there (s.tails i) (s.tails m);
        last = rw walked (ends_set h.chains (places h) i shorter later there listed (last_of-rest (chain_at h i).ends.tail place later (rw here at (s.last i))) s.last);
        parted = λ p.
            rw (walked, freed) (omega (arith, total-set (times p) (places h) i later [] listed, ap (times p) here, s.parted p));
        counted = omega (arith, total-set count_of h.chains i shorter empty_chain there, some, s.counted);
      }

contents-at : (h : Chains) (i : ℕ) → packets_in h i ≡ map (packet_at h.handles h.sizes) (places_of h.sizes (chain_at h i))
contents-at h i =
    let packets = map (packet_at h.handles h.sizes) in
    get_or-map packets (places h) i [] ∙ ap packets (get_or-map (places_of h.sizes) h.chains i empty_chain)

pub count_held : CountHeld
count_held h i =
    let c = chain_at h i in
    ap length (contents-at h i) ∙ length-map (places_of h.sizes c) (packet_at h.handles h.sizes) ∙ walk-length h.sizes c.ends.head c.count

pub take-removes : TakeRemoves
take-removes h i p ps s there e = go (chain_at h i).count refl
  where
    packet : ℕ → Packet
    packet = packet_at h.handles h.sizes

    go : (n : ℕ) → (chain_at h i).count ≡ n → TakeDone h i p ps
    go zero none =
        let nothing : packets_in h i ≡ [] = rw (contents-at h i, none) in
        let z : ◌≡◌ {A = ℕ} 0 1 = cc in absurd (omega arith)
    go (suc n) some =
        let found = head h s i there n some in
        let first : packet (chain_at h i).ends.head ≡ p = cc in
        let others : map packet (later h s i there n some) ≡ ps = cc in
        let fewer : suc n - 1 ≡ n = omega arith in
        record {
          followed = rw some (link-kept h.slots h.sizes (chain_at h i).ends.head (suc n) (next-good h s i there n some));
          packet = first;
          contents = rw (some, fewer, ← others) (take-contents h s i there n some);
          sound = rw (some, fewer) (take-sound h s i there n some);
        }
