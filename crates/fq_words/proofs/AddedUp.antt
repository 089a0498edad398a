-- All flows tested and added up, and their counts noted, one after the other.
use mathlib.Core.Path.{◌≡◌, refl, ap, sym, ◌∙◌}
use mathlib.Core.Bool.{true, false, ◌&&◌}
use mathlib.Core.List.{List, [], ◌∷◌, ◌++◌, map}
use Prim.Native.Nat.{ℕ, ◌+◌, ◌*◌, ◌≤◌, ◌<◌}
use native.Mathlib.Numerals.{add-one}
use native.Mathlib.Omega.{arith}
use lib.ListN.{get_or-map, drop, drop_of_length-le, length, length-map, length-set, set, take}
use lib.Seq.{drop-cons, take_all, take-suc, take-suc-set}
use Rattle.laws.specs.Tests.{all}
use Rattle.pie.specs.Verdicts.{total}
use Rattle.fq_state.specs.Flow.{empty_flow}
use Rattle.fq_state.specs.State.{bytes_of, count_of, counts_of, each_bytes, flow_at}
use Rattle.fq_state.specs.WellFormed.{common_conditions, flow_conditions, flows_fit}
use Rattle.fq_state.specs.declared.Common.{Common}
use Rattle.fq_state.specs.declared.Flow.{Flow}
use Rattle.fq_state.proofs.Facts.{common-fits, flow-fits}

-- ── the flow at place i, and those behind it ──

fit_next : (c : Common) (fs : List Flow) (i : ℕ) → i < length fs →
    flows_fit c (drop i fs) ≡ (all (flow_conditions c (flow_at fs i)) && flows_fit c (drop (i + 1) fs))
unfolding flows_fit
fit_next c fs i h = rw (add-one i, drop-cons fs i (empty_flow 0) h)

total-next : (part : Flow → ℕ) (fs : List Flow) (i : ℕ) → i < length fs →
    total (map part (drop i fs)) ≡ part (flow_at fs i) + total (map part (drop (i + 1) fs))
total-next part fs i h = rw (add-one i, drop-cons fs i (empty_flow 0) h)

fit_none : (c : Common) (fs : List Flow) (i : ℕ) → length fs ≤ i → flows_fit c (drop i fs) ≡ true
unfolding flows_fit
fit_none c fs i h = rw (drop_of_length-le fs h)

total-none : (part : Flow → ℕ) (fs : List Flow) (i : ℕ) → length fs ≤ i → total (map part (drop i fs)) ≡ 0
total-none part fs i h = rw (drop_of_length-le fs h)

noted-next : (fs : List Flow) (counts : List ℕ) (i : ℕ) → i < length fs → i < length counts → take i counts ≡ take i (counts_of fs) →
    take (i + 1) (set counts i (flow_at fs i).count) ≡ take (i + 1) (counts_of fs)
noted-next fs counts i h k e =
    let inside : i < length (counts_of fs) = rw (length-map fs count_of) h in
    rw (add-one i)
    (take-suc-set counts i (flow_at fs i).count k
    ∙ ap (λ l. l ++ (flow_at fs i).count ∷ []) e
    ∙ ap (λ n. take i (counts_of fs) ++ n ∷ []) (sym (get_or-map count_of fs i (empty_flow 0)))
    ∙ sym (take-suc (counts_of fs) i 0 inside))

-- ── what holds before place i ──

pub record Before (c : Common) (fs : List Flow) (counts : List ℕ) (count bytes i : ℕ) : Type 0 where
  pub fit : flows_fit c (drop i fs) ≡ flows_fit c fs
  pub count-is : count + total (counts_of (drop i fs)) ≡ total (counts_of fs)
  pub bytes-is : bytes + total (each_bytes (drop i fs)) ≡ total (each_bytes fs)
  pub count-le : count ≤ 65536 * i
  pub bytes_le : bytes ≤ 16777216 * i
  pub long : length counts ≡ 64
  pub noted : take i counts ≡ take i (counts_of fs)

pub start : (c : Common) (fs : List Flow) (counts : List ℕ) → length counts ≡ 64 → Before c fs counts 0 0 0
start c fs counts long =
    record {
      fit = refl;
      count-is = omega arith;
      bytes-is = omega arith;
      count-le = omega arith;
      bytes_le = omega arith;
      long = long;
      noted = refl;
    }

-- a flow that fits is in bounds
pub bounds : (c : Common) (f : Flow) → all (common_conditions c) ≡ true → all (flow_conditions c f) ≡ true →
    (f.count ≤ 65536) × (f.bytes ≤ 16777216)
bounds c f w h =
    let k = (common-fits c w).settings in
    let p = flow-fits c f h in
    (omega (arith, k.slots-high, p.count-high), omega (arith, k.buffer-high, p.bytes_fit))

module _ (c : Common) (fs : List Flow) (sized : length fs ≡ 64) (counts : List ℕ) (count bytes i : ℕ)
    (b : Before c fs counts count bytes i) where
  module _ (low : i < 64) (f : Flow) (f-is : f ≡ flow_at fs i) where
    inside : i < length fs
    inside = rw sized low

    rest : flows_fit c fs ≡ (all (flow_conditions c f) && flows_fit c (drop (i + 1) fs))
    rest =
        sym b.fit ∙ fit_next c fs i inside ∙ ap (λ g. all (flow_conditions c g) && flows_fit c (drop (i + 1) fs)) (sym f-is)

    pub broken : all (flow_conditions c f) ≡ false → flows_fit c fs ≡ false
    broken h = rest ∙ ap (λ t. t && flows_fit c (drop (i + 1) fs)) h

    pub next : all (common_conditions c) ≡ true → all (flow_conditions c f) ≡ true →
        Before c fs (set counts i f.count) (count + f.count) (bytes + f.bytes) (i + 1)
    next w h =
        let k = bounds c f w h in
        let here : i < length counts = rw b.long low in
        record {
          fit = sym (rest ∙ ap (λ t. t && flows_fit c (drop (i + 1) fs)) h);
          count-is = omega (arith, b.count-is, total-next count_of fs i inside, ap count_of f-is);
          bytes-is = omega (arith, b.bytes-is, total-next bytes_of fs i inside, ap bytes_of f-is);
          count-le = omega (arith, b.count-le, k.0);
          bytes_le = omega (arith, b.bytes_le, k.1);
          long = length-set counts i f.count ∙ b.long;
          noted =
              ap (λ (g : Flow). take (i + 1) (set counts i g.count)) f-is ∙ noted-next fs counts i inside here b.noted;
        }

  pub ended : 64 ≤ i →
      (flows_fit c fs ≡ true) × (count ≡ total (counts_of fs)) × (bytes ≡ total (each_bytes fs)) × (counts ≡ counts_of fs)
  ended high =
      let past : length fs ≤ i = rw sized high in (
        sym b.fit ∙ fit_none c fs i past,
        omega (arith, b.count-is, total-none count_of fs i past),
        omega (arith, b.bytes-is, total-none bytes_of fs i past),
        sym (take_all i counts (rw b.long high)) ∙ b.noted ∙ take_all i (counts_of fs) (rw (length-map fs count_of) past),
      )
