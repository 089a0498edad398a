-- A flow among the words: reading and writing one are reading and writing an element of the list of flows.
use mathlib.Core.Path.{◌≡◌, refl, ap, sym, ◌∙◌}
use mathlib.Core.List.{List, [], ◌∷◌, ◌++◌}
use Prim.Native.Nat.{ℕ, zero, suc, ◌+◌, ◌*◌, ◌≤◌, ◌<◌}
use native.Mathlib.Nat.{add_assoc, suc-add, zero-add}
use native.Mathlib.Omega.{arith}
use lib.ListN.{drop, length, get_or, set, length-drop}
use lib.Seq.{get_or-drop}
use Rattle.fq_state.specs.Flow.{empty_flow}
use Rattle.fq_state.specs.State.{flow_at}
use Rattle.fq_words.specs.Words.{flow_from, flows_from, flows_of}
use Rattle.fq_words.specs.Written.{fields_of, flow_words, written}
use Rattle.fq_state.specs.declared.Flow.{Flow}

-- as many flows as were asked for
pub length-flows : (n : ℕ) (w : List ℕ) → length (flows_from n w) ≡ n
unfolding flows_from
length-flows zero w = refl
length-flows (suc n) w = ap suc (length-flows n (drop 12 w))

-- ── reading ──

dropped : (w : List ℕ) (k j : ℕ) → get_or w (12 + k + j) 0 ≡ get_or (drop 12 w) (k + j) 0
dropped w k j = rw (add_assoc 12 k j) (sym (get_or-drop 12 w (k + j) 0))

flow-past : (w : List ℕ) (k : ℕ) → flow_from w (12 + k) ≡ flow_from (drop 12 w) k
flow-past w k = simp (dropped w k)

pub flow-from : (n : ℕ) (w : List ℕ) (i : ℕ) → i < n → flow_from w (12 * i) ≡ get_or (flows_from n w) i (empty_flow 0)
unfolding flows_from
flow-from zero w i h = absurd (omega arith)
flow-from (suc n) w zero h = refl
flow-from (suc n) w (suc i) h =
    let e : 12 * suc i ≡ 12 + 12 * i = omega arith in ap (flow_from w) e ∙ flow-past w (12 * i) ∙ flow-from n (drop 12 w) i (omega arith)

-- ── writing ──

set_past : (xs ys : List ℕ) (n a : ℕ) → set (xs ++ ys) (length xs + n) a ≡ xs ++ set ys n a
set_past [] ys n a = rw zero-add
set_past (x ∷ xs) ys n a = rw suc-add (ap (λ l. x ∷ l) (set_past xs ys n a))

written-past : (xs ys : List ℕ) (k j : ℕ) (vs : List ℕ) → written (xs ++ ys) (length xs + k) j vs ≡ xs ++ written ys k j vs
written-past xs ys k j [] = refl
written-past xs ys k j (v ∷ vs) =
    ap (λ w. written w (length xs + k) (j + 1) vs) (ap (λ n. set (xs ++ ys) n v) (add_assoc (length xs) k j) ∙ set_past xs ys (k + j) v)
    ∙ written-past xs (set ys (k + j) v) k (j + 1) vs

-- f 0, f 1, ..: n of them
abbrev listed : ℕ → (ℕ → ℕ) → List ℕ
listed zero f = []
listed (suc n) f = f 0 ∷ listed n (λ i. f (suc i))

written_out : (n : ℕ) (w : List ℕ) → n ≤ length w → listed n (λ i. get_or w i 0) ++ drop n w ≡ w
written_out zero w h = refl
written_out (suc n) [] h = absurd (omega arith)
written_out (suc n) (x ∷ w) h = ap (λ (l : List ℕ). x ∷ l) (written_out n w (omega arith))

pub set-from : (n : ℕ) (w : List ℕ) (i : ℕ) (f : Flow) → length w ≡ 12 * n → i < n →
    flows_from n (written w (12 * i) 0 (fields_of f)) ≡ set (flows_from n w) i f
unfolding flows_from
set-from zero w i f l h = absurd (omega arith)
set-from (suc n) w zero f l h =
    ap (λ (l : List ℕ). flows_from (suc n) (written l 0 0 (fields_of f))) (sym (written_out 12 w (omega arith)))
set-from (suc n) w (suc i) f l h =
    let xs = listed 12 (λ j. get_or w j 0) in
    let r = drop 12 w in
    let e : 12 * suc i ≡ 12 + 12 * i = omega arith in
    let rest : length (drop 12 w) ≡ 12 * n = simp length-drop (omega arith) in
    ap (λ k. flows_from (suc n) (written w k 0 (fields_of f))) e
    ∙ ap (λ (l : List ℕ). flows_from (suc n) (written l (12 + 12 * i) 0 (fields_of f))) (sym (written_out 12 w (omega arith)))
    ∙ ap (flows_from (suc n)) (written-past xs r (12 * i) 0 (fields_of f))
    ∙ ap (λ (fs : List Flow). flow_from w 0 ∷ fs) (set-from n r i f rest (omega arith))

-- ── words and flows determine each other ──

words-flows : (n : ℕ) (w : List ℕ) → length w ≡ 12 * n → flow_words (flows_from n w) ≡ w
unfolding flow_words flows_from
words-flows zero [] h = refl
words-flows zero (x ∷ w) h = absurd (omega arith)
words-flows (suc n) w h =
    let rest : length (drop 12 w) ≡ 12 * n = simp length-drop (omega arith) in
    ap (λ r. fields_of (flow_from w 0) ++ r) (words-flows n (drop 12 w) rest) ∙ written_out 12 w (omega arith)

-- ── the 64 flows ──

pub flow-read : (w : List ℕ) (i : ℕ) → i < 64 → flow_from w (12 * i) ≡ flow_at (flows_of w) i
flow-read w i h = flow-from 64 w i h

pub flow-set : (w : List ℕ) (i : ℕ) (f : Flow) → length w ≡ 768 → i < 64 →
    flows_of (written w (12 * i) 0 (fields_of f)) ≡ set (flows_of w) i f
flow-set w i f l h = set-from 64 w i f l h

pub words_are : (w : List ℕ) → length w ≡ 768 → flow_words (flows_of w) ≡ w
words_are w l = words-flows 64 w l
