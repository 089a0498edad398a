-- What a call leaves.
use mathlib.Core.Path.{◌≡◌, refl, ◌∙◌}
use mathlib.Core.List.{List}
use Prim.Native.Nat.{ℕ}
use lib.Dec.{leb}
use lib.ListN.{length, length-set}
use Rattle.laws.proofs.Choice.{at-cond}
use Rattle.refusals.specs.Answer.{Answer, admits}
use Rattle.calls.specs.Requests.{ask_arrival, ask_departure, ask_tick}
use Rattle.store.specs.Put.{free_place, linked, sizes_after_put}
use Rattle.store.specs.declared.Ends.{Ends}
use Rattle.pair_rules.specs.Queues.{own}
use Rattle.pair_rules.specs.declared.Pair.{Pair}
use Rattle.pair_rules.specs.declared.Which.{Which}
use Rattle.pair_rules.specs.declared.Which.TheVariants.{Intercom, Passengers}
use Rattle.pair_rules.specs.Answer.{departs}
use Rattle.pair_rules.specs.Arrival.{arrived_handles, arrived_sizes}
use Rattle.pair_rules.specs.Departure.{departed_sizes}
use Rattle.pair_guarantees.specs.Handed.{reply_to}
use Rattle.pair_burst.specs.Calls.{Call, asked, unknown}
use Rattle.pair_burst.specs.Burst.{Lent, after, lent, queues_of}

-- ── the tables keep their lengths ──

linked_long : (e : Ends) (count : ℕ) (sizes : List ℕ) (place : ℕ) → length (linked e count sizes place) ≡ length sizes
linked_long e count sizes place =
    at-cond (λ (l : List ℕ). length l ≡ length sizes) (leb 1 count) (λ _. length-set sizes e.tail _) (λ _. refl)

put-long : (e : Ends) (count : ℕ) (sizes : List ℕ) (place size : ℕ) → length (sizes_after_put e count sizes place size) ≡ length sizes
unfolding sizes_after_put
put-long e count sizes place size = length-set (linked e count sizes place) place size ∙ linked_long e count sizes place

handles-long : (p : Pair) (a : Answer) (handles : List ℕ) (handle : ℕ) → length (arrived_handles p a handles handle) ≡ length handles
handles-long p a handles handle =
    at-cond (λ (l : List ℕ). length l ≡ length handles) (admits a) (λ _. length-set handles (free_place p.shared.store) handle) (λ _. refl)

arrived-long : (p : Pair) (w : Which) (a : Answer) (sizes : List ℕ) (size : ℕ) → length (arrived_sizes p w a sizes size) ≡ length sizes
arrived-long p w a sizes size =
    at-cond (λ (l : List ℕ). length l ≡ length sizes) (admits a)
    (λ _. put-long (own w p).ends (own w p).backlog.count sizes (free_place p.shared.store) size) (λ _. refl)

departed-long : (p : Pair) (w : Which) (a : Answer) (sizes : List ℕ) → length (departed_sizes p w a sizes) ≡ length sizes
departed-long p w a sizes =
    at-cond (λ (l : List ℕ). length l ≡ length sizes) (departs a) (λ _. length-set sizes (own w p).ends.head _) (λ _. refl)

abbrev Long : Lent → Lent → Type 0
Long q next = (length next.handles ≡ length q.handles) × (length next.sizes ≡ length q.sizes)

lent-long : (q : Lent) (w : Which) (s o t h z : List ℕ) → length h ≡ length q.handles → length z ≡ length q.sizes →
    Long q (lent w s o t h z)
lent-long q Intercom s o t h z e f = (e, f)
lent-long q Passengers s o t h z e f = (e, f)

pub after-long : (q : Lent) (c : Call) → Long q (after q c)
after-long q (asked w (ask_arrival clock handle size ecn u)) =
    let p = (queues_of q).pair in
    let a = (reply_to (queues_of q) w (ask_arrival clock handle size ecn u)).answer in
    lent-long q w _ _ _ _ _ (handles-long p a q.handles handle) (arrived-long p w a q.sizes size)
after-long q (asked w (ask_departure clock)) =
    lent-long q w _ _ _ _ _ refl (departed-long (queues_of q).pair w (reply_to (queues_of q) w (ask_departure clock)).answer q.sizes)
after-long q (asked w (ask_tick clock)) = lent-long q w _ _ _ _ _ refl refl
after-long q unknown = (refl, refl)
