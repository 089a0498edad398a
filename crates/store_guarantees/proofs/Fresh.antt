-- Fresh chains are sound and empty, whatever the tables hold.
use mathlib.Core.Path.{◌≡◌}
use mathlib.Core.List.{List, [], map}
use Prim.Native.Nat.{ℕ}
use native.Mathlib.Omega.{arith}
use borrow.Author.Tests.{le-ltb}
use lib.ListN.{replicate}
use Rattle.store_guarantees.specs.Calls.{FreshSound}
use Rattle.store_guarantees.specs.Chains.{empty_chain, packet_at, places_of}
use Rattle.store_guarantees.specs.Sound.{count_of, times}
use Rattle.store_guarantees.proofs.Lists.{get_or-replicate-same, map-replicate, total-zeros}

pub fresh-sound : FreshSound
fresh-sound slots n handles sizes low high lh ls =
    let none : map (places_of sizes) (replicate n empty_chain) ≡ replicate n [] = map-replicate (places_of sizes) n empty_chain in (
      record {
        slots = high;
        used = omega arith;
        handles = lh;
        sizes = ls;
        freed = low;
        heads = λ i. rw (get_or-replicate-same n i empty_chain) low;
        tails = λ i. rw (get_or-replicate-same n i empty_chain) low;
        last = λ i. rw (none, get_or-replicate-same n i empty_chain, get_or-replicate-same {A = List ℕ} n i []);
        parted = λ p. rw (none, map-replicate (times p) n [], total-zeros n, le-ltb p 0 (omega arith));
        counted = rw (map-replicate count_of n empty_chain, total-zeros n);
      },
      rw none (map-replicate (map (packet_at handles sizes)) n []),
    )
