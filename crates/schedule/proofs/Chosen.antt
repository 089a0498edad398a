-- Choosing goes on after a look.
use mathlib.Core.Path.{◌≡◌, refl, ap, ◌∙◌}
use Rattle.std.specs.Prelude.{Option, Some, None}
use mathlib.Core.List.{List, [], ◌∷◌, foldl}
use Prim.Native.Nat.{ℕ, suc, ◌-◌, ◌<◌}
use native.Mathlib.Omega.{arith}
use Rattle.schedule.specs.Choosing.{
  Choice,
  Look,
  Move,
  after,
  choose,
  choose_in,
  chosen,
  led,
  look,
  most_looks,
  moves,
  new_goes_old,
  nobody,
  old_goes_last,
  old_leaves,
  serves,
}
use Rattle.schedule.specs.Passing.{Found, after_look, found, found_in, found_or}
use Rattle.schedule.specs.Ring.{Schedule, chosen_in, moved_in, schedule_of, turned, two_lists}
use Rattle.schedule.specs.TwoLists.{TwoLists}
use Rattle.schedule.proofs.Looks.{Reads}

-- a look that finds this ends choosing at a flow, or goes on from another ring
abbrev pub GoesTo : Schedule → Look → Option ℕ → Schedule → Type 0
GoesTo s l o t = (again : Schedule → Found) → after_look again s l ≡ found_or again o t

-- ── the moves of a choice ──

abbrev with : Schedule → (deficits : List ℕ) → Schedule
with s ds = schedule_of s.lists s.order ds

-- no move reads the deficits
turned-with : (s : Schedule) (ds : List ℕ) (m : Move) → turned (with s ds) m ≡ with (turned s m) ds
turned-with s ds new_goes_old = refl
turned-with s ds old_goes_last = refl
turned-with s ds old_leaves = refl

all-turned : (ms : List Move) (s : Schedule) (ds : List ℕ) → foldl turned (with s ds) ms ≡ with (foldl turned s ms) ds
all-turned [] s ds = refl
all-turned (m ∷ ms) s ds = ap (λ t. foldl turned t ms) (turned-with s ds m) ∙ all-turned ms (turned s m) ds

-- one move, then the others
pub led-in : (s : Schedule) (m : Move) (ds : List ℕ) (c : Choice) → chosen_in s (led m c) ≡ chosen_in (moved_in s m ds) c
unfolding chosen_in
led-in s m ds c = rw (all-turned c.moved (turned s m) ds)

-- no move
pub unmoved : (s : Schedule) (flow : ℕ) → chosen_in s (chosen flow (two_lists s)) ≡ s
unfolding chosen_in
unmoved s flow = refl

-- ── one look after another ──

pub chosen-all : (counts : List ℕ) (l : TwoLists) → choose counts l ≡ choose_in most_looks counts l
unfolding choose
chosen-all counts l = refl

pub used-up : (counts : List ℕ) (s : Schedule) (looks : ℕ) → looks ≡ 0 → found_in looks counts s ≡ found 0 s
unfolding choose_in chosen_in
used-up counts s looks e = rw e refl

pub looked : (counts : List ℕ) (s : Schedule) (looks : ℕ) (l : Look) → look counts (two_lists s) ≡ l → Reads s l →
    found_in (suc looks) counts s ≡ after_look (found_in looks counts) s l
unfolding choose_in
looked counts s looks l e r = rw e (go l r)
  where
    go : (l : Look) → Reads s l →
        (let c = after (choose_in looks counts) (two_lists s) l in found c.flow (chosen_in s c)) ≡ after_look (found_in looks counts) s l
    go nobody r = ap (found 0) (unmoved s 0)
    go (serves flow) r = ap (found flow) (unmoved s flow)
    go (moves m next) r = rw (r, led-in s m next.deficits (choose_in looks counts next))

module _ (counts : List ℕ) (s t : Schedule) (looks : ℕ) (o : Option ℕ) (some : 0 < looks) (l : Look)
    (e : look counts (two_lists s) ≡ l) (r : Reads s l) (k : GoesTo s l o t) where
  from : found_in looks counts s ≡ found_or (found_in (looks - 1) counts) o t
  from =
      let n : looks ≡ suc (looks - 1) = omega arith in
      ap (λ n. found_in n counts s) n ∙ looked counts s (looks - 1) l e r ∙ k (found_in (looks - 1) counts)

  pub ends_at : (flow : ℕ) → o ≡ Some flow → found_in looks counts s ≡ found flow t
  ends_at flow e = from ∙ ap (λ p. found_or (found_in (looks - 1) counts) p t) e

  pub goes_on : o ≡ None → found_in looks counts s ≡ found_in (looks - 1) counts t
  goes_on e = from ∙ ap (λ p. found_or (found_in (looks - 1) counts) p t) e
