-- The packets of listed places, when a word of a table is written.
use mathlib.Core.Path.{◌≡◌, refl, fun_ext}
use mathlib.Core.Bool.{Bool, true, false}
use mathlib.Core.Logic.{◌≢◌}
use mathlib.Core.List.{List, [], ◌∷◌, map}
use Prim.Native.Nat.{ℕ, ◌+◌, ◌*◌, ◌%◌, ◌<◌}
use native.Mathlib.Omega.{arith}
use borrow.Author.Tests.{eqb-true, eqb-false}
use lib.Dec.{eqb}
use lib.ListN.{get_or, length, set}
use lib.Seq.{get_or-set_same, get_or-set_other}
use Rattle.pie.specs.Verdicts.{total}
use Rattle.store.specs.Words.{size_at}
use Rattle.store_guarantees.specs.Chains.{packet_at}
use Rattle.store_guarantees.specs.Sound.{times}
use Rattle.store_guarantees.proofs.Walks.{link_to, not-head}

-- a link changes no size
size-kept : (sizes : List ℕ) (from to : ℕ) → from < length sizes → (p : ℕ) → size_at (link_to sizes from to) p ≡ size_at sizes p
size-kept sizes from to inside p = go (eqb p from) refl
  where
    word : ℕ
    word = size_at sizes from + 65536 * to

    go : (b : Bool) → eqb p from ≡ b → get_or (set sizes from word) p 0 % 65536 ≡ get_or sizes p 0 % 65536
    go true e = rw (eqb-true p from e) (rw (get_or-set_same sizes from word 0 inside) (omega arith))
    go false e = rw (get_or-set_other sizes from p word 0 (eqb-false p from e))

-- and no packet
pub packets-kept : (handles sizes : List ℕ) (from to : ℕ) → from < length sizes → packet_at handles (link_to sizes from to) ≡ packet_at handles sizes
packets-kept handles sizes from to inside = fun_ext (λ p. cc (size-kept sizes from to inside p))

module _ (handles sizes : List ℕ) (at handle size : ℕ) where
  -- a packet that is written at a place changes none at the others
  packets-written : (ps : List ℕ) → times at ps ≡ 0 → map (packet_at (set handles at handle) (set sizes at size)) ps ≡ map (packet_at handles sizes) ps
  packets-written [] h = refl
  packets-written (p ∷ ps) h =
      let apart : p ≢ at = not-head at p (omega arith) in
      cc (
        get_or-set_other handles at p handle 0 apart,
        get_or-set_other sizes at p size 0 apart,
        packets-written ps (omega arith),
      )

  pub all-packets-written : (pss : List (List ℕ)) → total (map (times at) pss) ≡ 0 →
      map (map (packet_at (set handles at handle) (set sizes at size))) pss ≡ map (map (packet_at handles sizes)) pss
  all-packets-written [] h = refl
  all-packets-written (ps ∷ pss) h = cc (packets-written ps (omega arith), all-packets-written pss (omega arith))

  -- and is found there
  pub packet-found : at < length handles → at < length sizes → size < 65536 →
      packet_at (set handles at handle) (set sizes at size) at ≡ record { handle = handle; size = size }
  packet-found lh ls small =
      let there = get_or-set_same sizes at size 0 ls in
      let kept : get_or (set sizes at size) at 0 % 65536 ≡ size = rw there (omega arith) in
      cc (get_or-set_same handles at handle 0 lh)
