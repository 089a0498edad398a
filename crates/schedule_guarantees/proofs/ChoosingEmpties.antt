-- Where no flow has a packet no look serves one, so choosing ends only where both lists are empty; each move takes one of those left.
use mathlib.Core.Path.{◌≡◌, refl, ap, sym, ◌∙◌}
use mathlib.Core.Bool.{Bool, true, false, cond}
use mathlib.Core.List.{List, [], ◌∷◌}
use Prim.Native.Nat.{ℕ, zero, suc, ◌+◌, ◌≤◌}
use native.Mathlib.Omega.{arith}
use lib.Dec.{eqb}
use lib.ListN.{get_or, length}
use borrow.Author.Tests.{eq-eqb, ltb-false}
use Rattle.schedule.specs.Choosing.{Choice, Look, Move, after, choose, choose_in, chosen, led, look, most_looks, moves, nobody, owes, serves}
use Rattle.schedule.specs.TwoLists.{TwoLists, listed, occurs, zero_deficit}
use Rattle.schedule.proofs.Totals.{at-most-all}
use Rattle.schedule_guarantees.specs.ChoosingEmpties.{ChoosingEmpties, Emptied, moves_of_new, moves_of_old, moves_to_empty, sum}
use Rattle.schedule_guarantees.specs.Kept.{Sound}
use Rattle.schedule_guarantees.proofs.Kept.{Looked, look-law}
use Rattle.schedule_guarantees.proofs.AllMoves.{all-moves-high}
use Rattle.schedule_guarantees.proofs.Measure.{moves_left, new_weight, old_weight, quanta, weights}

-- a list in which no flow stands is empty
none-stand : (l : List ℕ) → ((j : ℕ) → occurs j l ≡ 0) → l ≡ []
unfolding occurs
none-stand [] h = refl
none-stand (x ∷ l) h =
    let once : cond (eqb x x) 1 0 + occurs x l ≡ 1 + occurs x l = rw (eq-eqb x x refl) in
    absurd (omega (arith, h x))

module _ (counts : List ℕ) (none : (flow : ℕ) → get_or counts flow 0 ≡ 0) where
  -- ── the moves that are left ──

  old-moves : (l : TwoLists) (flow : ℕ) → old_weight counts l.deficits flow ≡ moves_of_old l flow
  old-moves l flow = rw (eq-eqb (get_or counts flow 0) 0 (none flow))

  new-moves : (l : TwoLists) (flow : ℕ) → new_weight counts l.deficits flow ≡ moves_of_new l flow
  new-moves l flow = rw (eq-eqb (get_or counts flow 0) 0 (none flow)) (go (owes l.deficits flow) refl)
    where
      d : ℕ
      d = get_or l.deficits flow 0

      go : (b : Bool) → owes l.deficits flow ≡ b → quanta d + cond b 1 2 ≡ cond b (quanta d + 1) 2
      go true e = refl
      go false e = omega (arith, ltb-false d zero_deficit e)

  same_sum : (w f : ℕ → ℕ) → ((flow : ℕ) → w flow ≡ f flow) → (flows : List ℕ) → weights w flows ≡ sum f flows
  unfolding weights
  same_sum w f e [] = refl
  same_sum w f e (flow ∷ flows) = omega (arith, e flow, same_sum w f e flows)

  left_is : (l : TwoLists) → moves_left counts l ≡ moves_to_empty l
  unfolding moves_left
  left_is l =
      omega (
        arith,
        same_sum (new_weight counts l.deficits) (moves_of_new l) (new-moves l) l.new,
        same_sum (old_weight counts l.deficits) (moves_of_old l) (old-moves l) l.old,
      )

  -- ── a choice ──

  record Ends (l : TwoLists) (c : Choice) : Type 0 where
    emptied : Emptied c
    moved : length c.moved ≡ moves_left counts l

  stops : (l : TwoLists) → ((j : ℕ) → listed j l ≡ 0) → moves_left counts l ≡ 0 → Ends l (chosen 0 l)
  stops l k z =
      record {
        emptied =
            record {
              nobody = refl;
              no-new = none-stand l.new (λ j. omega (arith, k j));
              no_old = none-stand l.old (λ j. omega (arith, k j));
            };
        moved = sym z;
      }

  nobody-left : (l : TwoLists) → ((j : ℕ) → listed j l ≡ 0) → moves_left counts l ≡ 0
  unfolding moves_left weights
  nobody-left l k = rw (none-stand l.new (λ j. omega (arith, k j)), none-stand l.old (λ j. omega (arith, k j)))

  ends-in : (n : ℕ) (l : TwoLists) → Sound counts l → moves_left counts l ≤ n → Ends l (choose_in n counts l)
  unfolding choose_in
  ends-in zero l h p = go (look counts l) (look-law counts l h)
    where
      go : (x : Look) → Looked counts l x → Ends l (chosen 0 l)
      go nobody k = stops l k (nobody-left l k)
      go (serves flow) k = absurd (k.holds (none flow))
      go (moves m t) k = absurd (omega (arith, k.1.fewer))
  ends-in (suc n) l h p = go (look counts l) (look-law counts l h) (ends-in n)
    where
      step : (m : Move) (t : TwoLists) (c : Choice) → moves_left counts t + 1 ≡ moves_left counts l → Ends t c → Ends l (led m c)
      step m t c e k =
          let x = k.emptied in
          record {
            emptied = record { nobody = x.nobody; no-new = x.no-new; no_old = x.no_old };
            moved = omega (arith, k.moved);
          }

      go : (x : Look) → Looked counts l x →
          ((t : TwoLists) → Sound counts t → moves_left counts t ≤ n → Ends t (choose_in n counts t)) →
          Ends l (after (choose_in n counts) l x)
      go nobody k next = stops l k (nobody-left l k)
      go (serves flow) k next = absurd (k.holds (none flow))
      go (moves m t) k next = step m t _ k.1.fewer (next t k.0 (omega (arith, k.1.fewer)))

  -- where no move is left a look finds nobody, and gives what is given without one
  nothing_left : (n : ℕ) (l : TwoLists) → Sound counts l → moves_left counts l ≤ 0 → choose_in n counts l ≡ chosen 0 l
  unfolding choose_in
  nothing_left zero l h p = refl
  nothing_left (suc n) l h p = go (look counts l) (look-law counts l h)
    where
      go : (x : Look) → Looked counts l x → after (choose_in n counts) l x ≡ chosen 0 l
      go nobody k = refl
      go (serves flow) k = absurd (k.holds (none flow))
      go (moves m t) k = absurd (omega (arith, k.1.fewer))

  enough : (m n : ℕ) (l : TwoLists) → Sound counts l → moves_left counts l ≤ m → moves_left counts l ≤ n →
      choose_in m counts l ≡ choose_in n counts l
  unfolding choose_in
  enough zero n l h p q = sym (nothing_left n l h p)
  enough (suc m) zero l h p q = nothing_left (suc m) l h q
  enough (suc m) (suc n) l h p q = go (look counts l) (look-law counts l h) (enough m n)
    where
      go : (x : Look) → Looked counts l x →
          ((t : TwoLists) → Sound counts t → moves_left counts t ≤ m → moves_left counts t ≤ n → choose_in m counts t ≡ choose_in n counts t) →
          after (choose_in m counts) l x ≡ after (choose_in n counts) l x
      go nobody k next = refl
      go (serves flow) k next = refl
      go (moves move t) k next = ap (led move) (next t k.0 (omega (arith, k.1.fewer)) (omega (arith, k.1.fewer)))

pub choosing-empties : ChoosingEmpties
unfolding choose
choosing-empties counts l h none =
    let high = all-moves-high counts l (at-most-all counts l h.well) in
    let same = left_is counts none l in
    let ends = ends-in counts none most_looks l h (omega arith) in (
      ends.emptied,
      ends.moved ∙ same,
      omega arith,
      λ looks p. enough counts none looks most_looks l h (omega arith) (omega arith),
    )
