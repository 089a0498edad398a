-- The places of linked slots, when a word of the table is written.
use mathlib.Core.Path.{◌≡◌, refl, ap, subst}
use mathlib.Core.Bool.{Bool, true, false}
use mathlib.Core.Logic.{◌≢◌}
use mathlib.Core.List.{List, [], ◌∷◌, ◌++◌, map}
use Prim.Native.Nat.{ℕ, zero, suc, ◌+◌, ◌*◌, ◌≤◌, ◌<◌}
use native.Mathlib.Omega.{arith}
use borrow.Author.Tests.{eq-eqb, eqb-true, eqb-false}
use lib.Dec.{eqb}
use lib.ListN.{get_or, length, set}
use lib.Seq.{get_or-set_same, get_or-set_other}
use Rattle.pie.specs.Verdicts.{total}
use Rattle.store.specs.Words.{link_at, size_at}
use Rattle.store_guarantees.specs.Chains.{Chain, empty_chain, places_of, walk}
use Rattle.store_guarantees.specs.Sound.{last_of, one, times}
use Rattle.store_guarantees.proofs.Lists.{total-covers}

-- ── how many times a place stands in a list ──

pub once : (p : ℕ) → one (eqb p p) ≡ 1
once p = rw (eq-eqb p p refl)

pub times-append : (p : ℕ) (ps qs : List ℕ) → times p (ps ++ qs) ≡ times p ps + times p qs
times-append p [] qs = omega arith
times-append p (x ∷ ps) qs = omega (arith, times-append p ps qs)

-- a place that the head of a list is not
pub not-head : (p q : ℕ) → one (eqb p q) ≡ 0 → q ≢ p
not-head p q h e = omega (arith, once p, rw e at h)

pub last-in : (p : ℕ) (ps : List ℕ) → 1 ≤ times (last_of p ps) (p ∷ ps)
last-in p [] = omega (arith, once p)
last-in p (q ∷ qs) = omega (arith, last-in q qs)

pub last_of-append : (d : ℕ) (ps : List ℕ) (p : ℕ) → last_of d (ps ++ p ∷ []) ≡ p
last_of-append d [] p = refl
last_of-append d (q ∷ ps) p = last_of-append q ps p

-- ── one word is written ──

-- the word at `from`, linked to `to`
abbrev pub link_to : (sizes : List ℕ) (from to : ℕ) → List ℕ
link_to sizes from to = set sizes from (size_at sizes from + 65536 * to)

-- at a place that is not walked
pub walk-set : (sizes : List ℕ) (at word first n : ℕ) → times at (walk sizes first n) ≡ 0 → walk (set sizes at word) first n ≡ walk sizes first n
walk-set sizes at word first zero h = refl
walk-set sizes at word first (suc n) h =
    let apart : first ≢ at = not-head at first (omega arith) in
    let same = get_or-set_other sizes at first word 0 apart in
    let later = walk-set sizes at word (link_at sizes first) n (omega arith) in
    rw same (ap (λ t. first ∷ t) later)

-- the last of the walked slots is linked on
pub walk-extend : (sizes : List ℕ) (last at : ℕ) → last < length sizes → (first n : ℕ) →
    last_of first (walk sizes (link_at sizes first) n) ≡ last → times last (walk sizes first (suc n)) ≤ 1 →
    walk (link_to sizes last at) first (suc (suc n)) ≡ walk sizes first (suc n) ++ at ∷ []
walk-extend sizes last at inside first zero e h =
    let there = get_or-set_same sizes last (size_at sizes last + 65536 * at) 0 inside in
    let link : link_at (link_to sizes last at) last ≡ at = rw there (omega arith) in
    rw e (rw link)
walk-extend sizes last at inside first (suc n) e h =
    let found = last-in (link_at sizes first) (walk sizes (link_at sizes (link_at sizes first)) n) in
    let seen : 1 ≤ times last (walk sizes (link_at sizes first) (suc n)) = subst (λ l. 1 ≤ times l (walk sizes (link_at sizes first) (suc n))) e found in
    let parts : times last (walk sizes first (suc (suc n))) ≡ one (eqb last first) + times last (walk sizes (link_at sizes first) (suc n)) = refl in
    let apart : first ≢ last = not-head last first (omega arith) in
    let same = get_or-set_other sizes last first (size_at sizes last + 65536 * at) 0 apart in
    let later = walk-extend sizes last at inside (link_at sizes first) n e (omega arith) in
    rw same (ap (λ t. first ∷ t) later)

-- ── the places of all chains ──

-- a word is written at a place that is in none of them
pub none-walked : (sizes : List ℕ) (at word : ℕ) (cs : List Chain) → total (map (times at) (map (places_of sizes) cs)) ≡ 0 →
    map (places_of (set sizes at word)) cs ≡ map (places_of sizes) cs
none-walked sizes at word [] h = refl
none-walked sizes at word (c ∷ cs) h =
    cc (walk-set sizes at word c.ends.head c.count (omega arith), none-walked sizes at word cs (omega arith))

-- a word is written at a place that is in none of them but the i-th, which changes
pub others-walked : (sizes : List ℕ) (at word : ℕ) (cs : List Chain) (i : ℕ) (c' : Chain) → i < length cs →
    total (map (times at) (map (places_of sizes) cs)) ≤ times at (get_or (map (places_of sizes) cs) i []) →
    map (places_of (set sizes at word)) (set cs i c') ≡ set (map (places_of sizes) cs) i (places_of (set sizes at word) c')
others-walked sizes at word [] i c' inside h = refl
others-walked sizes at word (c ∷ cs) zero c' inside h = ap (λ t. places_of (set sizes at word) c' ∷ t) (none-walked sizes at word cs (omega arith))
others-walked sizes at word (c ∷ cs) (suc i) c' inside h =
    let rest = map (places_of sizes) cs in
    let covers = total-covers (times at) rest i [] refl in
    cc (walk-set sizes at word c.ends.head c.count (omega arith), others-walked sizes at word cs i c' (omega arith) (omega arith))

-- ── the last places ──

-- the i-th chain and its places change
pub ends_set : (cs : List Chain) (pss : List (List ℕ)) (i : ℕ) (c' : Chain) (ps : List ℕ) → i < length cs → i < length pss →
    last_of c'.ends.tail ps ≡ c'.ends.tail →
    ((j : ℕ) → last_of (get_or cs j empty_chain).ends.tail (get_or pss j []) ≡ (get_or cs j empty_chain).ends.tail) →
    (j : ℕ) → last_of (get_or (set cs i c') j empty_chain).ends.tail (get_or (set pss i ps) j []) ≡ (get_or (set cs i c') j empty_chain).ends.tail
ends_set cs pss i c' ps hc hp new old j = go (eqb j i) refl
  where
    go : (b : Bool) → eqb j i ≡ b → last_of (get_or (set cs i c') j empty_chain).ends.tail (get_or (set pss i ps) j []) ≡ (get_or (set cs i c') j empty_chain).ends.tail
    go true e = rw (eqb-true j i e, get_or-set_same cs i c' empty_chain hc, get_or-set_same pss i ps [] hp) new
    go false e =
        let apart = eqb-false j i e in
        rw (get_or-set_other cs i j c' empty_chain apart, get_or-set_other pss i j ps [] apart) (old j)

pub walk-length : (sizes : List ℕ) (first n : ℕ) → length (walk sizes first n) ≡ n
walk-length sizes first zero = refl
walk-length sizes first (suc n) = ap suc (walk-length sizes (link_at sizes first) n)
