-- 20: how the two lists stand in one ring of 64 places: the old list from `first` on, then the new one. Elements outside the lists may be
-- anything. The rules are those of the two lists (Entering, Choosing); here is what they leave in the ring, place by place.
use mathlib.Core.List.{List, [], ◌∷◌, ◌++◌, foldl}
use Rattle.std.specs.Prelude.{ℕ, zero, suc, ◌+◌, ◌-◌, ◌%◌, get_or, set}
use Rattle.schedule.specs.Choosing.{Choice, Move, charged, new_goes_old, old_goes_last, old_leaves}
use Rattle.schedule.specs.Entering.{entered}
use Rattle.schedule.specs.TwoLists.{TwoLists}
use Rattle.schedule.specs.TwoLists as two
use Rattle.schedule.specs.declared.Lists.{Lists}

pub record Schedule : Type 0 where
  -- where the lists stand: the first place, how many flows the old list has, and how many both have
  pub lists : Lists
  pub order : List ℕ
  pub deficits : List ℕ

abbrev pub schedule_of : Lists → (order deficits : List ℕ) → Schedule
schedule_of lists order deficits = record { lists = lists; order = order; deficits = deficits }

-- place i of the lists
abbrev pub place : (first i : ℕ) → ℕ
place first i = (first + i) % 64

-- n flows of the ring, in order, from this place on
unfoldable pub ring_of : (order : List ℕ) (first n : ℕ) → List ℕ
ring_of order first zero = []
ring_of order first (suc n) = ring_of order first n ++ get_or order (place first n) 0 ∷ []

abbrev pub old_list : Schedule → List ℕ
old_list s = ring_of s.order s.lists.first s.lists.old

abbrev pub new_list : Schedule → List ℕ
new_list s = ring_of s.order (place s.lists.first s.lists.old) (s.lists.listed - s.lists.old)

-- the two lists that stand in the ring, and the deficits
abbrev pub two_lists : Schedule → TwoLists
two_lists s = two.lists (new_list s) (old_list s) s.deficits

abbrev pub deficit_of : Schedule → (flow : ℕ) → ℕ
deficit_of s flow = two.deficit_of (two_lists s) flow

-- at fresh both lists are empty
abbrev pub empty_lists : Lists
empty_lists = record { first = 0; old = 0; listed = 0 }

-- 25: a flow that enters stands behind the last
unfoldable pub entered_in : Schedule → (flow : ℕ) → Schedule
entered_in s flow =
    let l = s.lists in
    let lists : Lists = record { first = l.first; old = l.old; listed = l.listed + 1 } in
    schedule_of lists (set s.order (place l.first l.listed) flow) (entered (two_lists s) flow).deficits

-- 26: the new list's head stands behind the old list already; the old list's head is written behind the last, or left behind
abbrev pub turned : Schedule → Move → Schedule
turned s new_goes_old =
    let l = s.lists in schedule_of (record { first = l.first; old = l.old + 1; listed = l.listed }) s.order s.deficits
turned s old_goes_last =
    let l = s.lists in
    let order = set s.order (place l.first l.listed) (get_or s.order l.first 0) in
    schedule_of (record { first = place l.first 1; old = l.old; listed = l.listed }) order s.deficits
turned s old_leaves =
    let l = s.lists in
    schedule_of (record { first = place l.first 1; old = l.old - 1; listed = l.listed - 1 }) s.order s.deficits

-- the ring after a move, and after all moves of a choice, with the deficits that the rule gives
abbrev pub moved_in : Schedule → Move → (deficits : List ℕ) → Schedule
moved_in s m deficits = let t = turned s m in schedule_of t.lists t.order deficits

unfoldable pub chosen_in : Schedule → Choice → Schedule
chosen_in s c = let t = foldl turned s c.moved in schedule_of t.lists t.order c.lists.deficits

-- 27: only a deficit changes
abbrev pub charged_in : Schedule → (flow size : ℕ) → Schedule
charged_in s flow size = schedule_of s.lists s.order (charged (two_lists s) flow size).deficits
