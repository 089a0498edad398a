-- The reply of each call, by the tests that are made in turn.
use mathlib.Core.Path.{◌≡◌, refl}
use mathlib.Core.Bool.{Bool, true, false}
use mathlib.Core.List.{List}
use Prim.Native.Nat.{ℕ}
use lib.ListN.{length}
use borrow.Author.Tests.{eq-eqb}
use Rattle.pie.specs.Verdicts.{admitted}
use Rattle.pie.specs.declared.Verdict.{Verdict}
use Rattle.refusals.specs.Answer.{Answer, departed, refused, ticked, verdict}
use Rattle.refusals.specs.Tests.{size_refused}
use Rattle.pair_rules.specs.Answer.{Reply}
use Rattle.store.specs.Put.{free_place, handles_after_put, sizes_after_put, store_after_put}
use Rattle.store.specs.Take.{sizes_after_take, store_after_take}
use Rattle.pair_rules.specs.Queues.{paired, storing}
use Rattle.pair_rules.specs.WellFormed.{well_formed}
use Rattle.pair_rules.specs.declared.Pair.{Pair}
use Rattle.pair_rules.specs.declared.Shared.{Shared}
use Rattle.pair_rules.specs.declared.State.{State}
use Rattle.pair_rules.specs.declared.Which.{Which}
use Rattle.pair_rules.specs.declared.Which.TheVariants.{Intercom, Passengers}
use Rattle.pair_rules.specs.Arrival.{arrival, arrival_refusal, arrived_handles, arrived_sizes, arrived_state, arrived_store, freed_refused, verdict_of}
use Rattle.pair_rules.specs.Departure.{departed_sizes, departed_state, departure, departure_refusal, head_handle, head_size, head_word_refused}
use Rattle.pair_rules.specs.Refusals.{clock_refused, counts_refused, empty_refused, tables_refused, too_soon_refused}
use Rattle.pair_rules.specs.Tick.{tick, tick_refusal, ticked_state}
use Rattle.pair_words.specs.After.{own_after, shared_after}
use Rattle.pair_words.specs.Words.{shared_words, state_words}

-- refused by this number
abbrev pub refused_by : (number : ℕ) → Pair → Reply
refused_by number p = record { answer = refused number; pair = p }

-- ── records that are not well formed ──

pub tick-malformed : (p : Pair) (w : Which) (clock : ℕ) → well_formed p ≡ false → tick p w clock ≡ refused_by 2 p
unfolding tick tick_refusal
tick-malformed p w clock e = rw e

module _ (p : Pair) (w : Which) (handles sizes : List ℕ) (clock : ℕ) where
  pub departure-malformed : well_formed p ≡ false → departure p w handles sizes clock ≡ refused_by 2 p
  unfolding departure departure_refusal
  departure-malformed e = rw e

  module _ (size : ℕ) (ecn : Bool) (u : ℕ) where
    pub arrival-malformed : well_formed p ≡ false → arrival p w handles sizes clock size ecn u ≡ refused_by 2 p
    unfolding arrival arrival_refusal
    arrival-malformed e = rw e

-- ── well-formed records, and tables that fit them ──

abbrev pub Formed : Which → Shared → (own other : State) → Type 0
Formed w s o t = well_formed (paired w s o t) ≡ true

abbrev pub Fit : Shared → (handles sizes : List ℕ) → Type 0
Fit s handles sizes = tables_refused s (length handles) (length sizes) ≡ false

pub tables-fit : (s : Shared) (handles sizes : List ℕ) → length handles ≡ s.slots → length sizes ≡ s.slots → Fit s handles sizes
tables-fit s handles sizes h z = rw (eq-eqb (length handles) s.slots h, eq-eqb (length sizes) s.slots z)

-- ── a tick ──

module _ (s : Shared) (o t : State) (clock : ℕ) where
  pub tick-late : (w : Which) → Formed w s o t → clock_refused o clock ≡ true → tick (paired w s o t) w clock ≡ refused_by 4 (paired w s o t)
  unfolding tick tick_refusal
  tick-late Intercom f e = rw (f, e)
  tick-late Passengers f e = rw (f, e)

  pub tick-early : (w : Which) → Formed w s o t → clock_refused o clock ≡ false → too_soon_refused o clock ≡ true →
      tick (paired w s o t) w clock ≡ refused_by 5 (paired w s o t)
  unfolding tick tick_refusal
  tick-early Intercom f e k = rw (f, e, k)
  tick-early Passengers f e k = rw (f, e, k)

  pub tick-made : (w : Which) → Formed w s o t → clock_refused o clock ≡ false → too_soon_refused o clock ≡ false →
      tick (paired w s o t) w clock ≡ record { answer = ticked; pair = paired w s (ticked_state o clock) t }
  unfolding tick tick_refusal
  tick-made Intercom f e k = rw (f, e, k)
  tick-made Passengers f e k = rw (f, e, k)

-- what is written is what the reply says
pub ticked-gives : (w : Which) (s : Shared) (o t : State) (clock : ℕ) (ow ow' : List ℕ) →
    tick (paired w s o t) w clock ≡ record { answer = ticked; pair = paired w s (ticked_state o clock) t } →
    ow' ≡ state_words ow (ticked_state o clock) →
    let a = tick (paired w s o t) w clock in (ticked ≡ a.answer) × (ow' ≡ own_after w a ow)
ticked-gives Intercom s o t clock ow ow' e eo = rw e (refl, eo)
ticked-gives Passengers s o t clock ow ow' e eo = rw e (refl, eo)

-- ── a departure ──

pub departure-tables : (w : Which) (s : Shared) (o t : State) (handles sizes : List ℕ) (clock : ℕ) → Formed w s o t →
    tables_refused s (length handles) (length sizes) ≡ true → departure (paired w s o t) w handles sizes clock ≡ refused_by 3 (paired w s o t)
unfolding departure departure_refusal
departure-tables Intercom s o t handles sizes clock f e = rw (f, e)
departure-tables Passengers s o t handles sizes clock f e = rw (f, e)

module _ (s : Shared) (o t : State) (handles sizes : List ℕ) (clock : ℕ) (fit : Fit s handles sizes) where
  pub departure-late : (w : Which) → Formed w s o t → clock_refused o clock ≡ true →
      departure (paired w s o t) w handles sizes clock ≡ refused_by 4 (paired w s o t)
  unfolding departure departure_refusal
  departure-late Intercom f e = rw (f, fit, e)
  departure-late Passengers f e = rw (f, fit, e)

  pub departure-empty : (w : Which) → Formed w s o t → clock_refused o clock ≡ false → empty_refused o ≡ true →
      departure (paired w s o t) w handles sizes clock ≡ refused_by 6 (paired w s o t)
  unfolding departure departure_refusal
  departure-empty Intercom f e k = rw (f, fit, e, k)
  departure-empty Passengers f e k = rw (f, fit, e, k)

  pub departure-wrong : (w : Which) → Formed w s o t → clock_refused o clock ≡ false → empty_refused o ≡ false →
      head_word_refused s.slots o sizes ≡ true → departure (paired w s o t) w handles sizes clock ≡ refused_by 9 (paired w s o t)
  unfolding departure departure_refusal
  departure-wrong Intercom f e k x = rw (f, fit, e, k, x)
  departure-wrong Passengers f e k x = rw (f, fit, e, k, x)

  pub departure-made : (w : Which) → Formed w s o t → clock_refused o clock ≡ false → empty_refused o ≡ false →
      head_word_refused s.slots o sizes ≡ false →
      departure (paired w s o t) w handles sizes clock
      ≡ record {
        answer = departed (head_handle o handles) (head_size o sizes);
        pair = paired w (storing s (store_after_take s.store o.ends.head)) (departed_state o sizes clock (head_size o sizes)) t;
      }
  unfolding departure departure_refusal
  departure-made Intercom f e k x = rw (f, fit, e, k, x)
  departure-made Passengers f e k x = rw (f, fit, e, k, x)

-- what is written is what the reply says
pub departed-gives : (w : Which) (s : Shared) (o t : State) (handles sizes : List ℕ) (clock : ℕ) (size : ℕ) (sh sh' ow ow' sizes' : List ℕ) →
    departure (paired w s o t) w handles sizes clock
    ≡ record {
      answer = departed (head_handle o handles) (head_size o sizes);
      pair = paired w (storing s (store_after_take s.store o.ends.head)) (departed_state o sizes clock (head_size o sizes)) t;
    } →
    size ≡ head_size o sizes →
    sh' ≡ shared_words (storing s (store_after_take s.store o.ends.head)) →
    ow' ≡ state_words ow (departed_state o sizes clock (head_size o sizes)) →
    sizes' ≡ sizes_after_take sizes o.ends.head s.store.freed →
    let a = departure (paired w s o t) w handles sizes clock in
    (departed (head_handle o handles) size ≡ a.answer)
    × (sh' ≡ shared_after a sh)
    × (ow' ≡ own_after w a ow)
    × (sizes' ≡ departed_sizes (paired w s o t) w a.answer sizes)
departed-gives Intercom s o t handles sizes clock size sh sh' ow ow' sizes' e en es eo ez = rw (e, en) (refl, es, eo, ez)
departed-gives Passengers s o t handles sizes clock size sh sh' ow ow' sizes' e en es eo ez = rw (e, en) (refl, es, eo, ez)

-- ── an arrival ──

pub arrival-tables : (w : Which) (s : Shared) (o t : State) (handles sizes : List ℕ) (clock size : ℕ) (ecn : Bool) (u : ℕ) →
    Formed w s o t → tables_refused s (length handles) (length sizes) ≡ true →
    arrival (paired w s o t) w handles sizes clock size ecn u ≡ refused_by 3 (paired w s o t)
unfolding arrival arrival_refusal
arrival-tables Intercom s o t handles sizes clock size ecn u f e = rw (f, e)
arrival-tables Passengers s o t handles sizes clock size ecn u f e = rw (f, e)

module _ (s : Shared) (o t : State) (handles sizes : List ℕ) (clock size : ℕ) (ecn : Bool) (u : ℕ) (fit : Fit s handles sizes) where
  pub arrival-late : (w : Which) → Formed w s o t → clock_refused o clock ≡ true →
      arrival (paired w s o t) w handles sizes clock size ecn u ≡ refused_by 4 (paired w s o t)
  unfolding arrival arrival_refusal
  arrival-late Intercom f e = rw (f, fit, e)
  arrival-late Passengers f e = rw (f, fit, e)

  pub arrival-size : (w : Which) → Formed w s o t → clock_refused o clock ≡ false → size_refused size ≡ true →
      arrival (paired w s o t) w handles sizes clock size ecn u ≡ refused_by 7 (paired w s o t)
  unfolding arrival arrival_refusal
  arrival-size Intercom f e k = rw (f, fit, e, k)
  arrival-size Passengers f e k = rw (f, fit, e, k)

  pub arrival-counts : (w : Which) → Formed w s o t → clock_refused o clock ≡ false → size_refused size ≡ false → counts_refused o ≡ true →
      arrival (paired w s o t) w handles sizes clock size ecn u ≡ refused_by 8 (paired w s o t)
  unfolding arrival arrival_refusal
  arrival-counts Intercom f e k x = rw (f, fit, e, k, x)
  arrival-counts Passengers f e k x = rw (f, fit, e, k, x)

  module _ (v : Verdict) where
    pub arrival-lost : (w : Which) → Formed w s o t → clock_refused o clock ≡ false → size_refused size ≡ false → counts_refused o ≡ false →
        v ≡ verdict_of (paired w s o t) w size ecn u → freed_refused s sizes v ≡ true →
        arrival (paired w s o t) w handles sizes clock size ecn u ≡ refused_by 9 (paired w s o t)
    unfolding arrival arrival_refusal
    arrival-lost Intercom f e k x ev y = rw (← ev, f, fit, e, k, x, y)
    arrival-lost Passengers f e k x ev y = rw (← ev, f, fit, e, k, x, y)

    pub arrival-made : (w : Which) → Formed w s o t → clock_refused o clock ≡ false → size_refused size ≡ false → counts_refused o ≡ false →
        v ≡ verdict_of (paired w s o t) w size ecn u → freed_refused s sizes v ≡ false →
        arrival (paired w s o t) w handles sizes clock size ecn u
        ≡ record {
          answer = verdict v;
          pair = paired w (storing s (arrived_store s.store sizes v)) (arrived_state o clock size (free_place s.store) v) t;
        }
    unfolding arrival arrival_refusal
    arrival-made Intercom f e k x ev y = rw (← ev, f, fit, e, k, x, y)
    arrival-made Passengers f e k x ev y = rw (← ev, f, fit, e, k, x, y)

-- what is written is what the reply says
abbrev pub GivesArrival : Which → Shared → (own other : State) (handles sizes : List ℕ) (clock size : ℕ) (ecn : Bool) (u : ℕ) →
    (answer : Answer) (handle : ℕ) (sh sh' ow ow' handles' sizes' : List ℕ) → Type 0
GivesArrival w s o t handles sizes clock size ecn u answer handle sh sh' ow ow' handles' sizes' =
    let a = arrival (paired w s o t) w handles sizes clock size ecn u in
    (answer ≡ a.answer)
    × (sh' ≡ shared_after a sh)
    × (ow' ≡ own_after w a ow)
    × (handles' ≡ arrived_handles (paired w s o t) a.answer handles handle)
    × (sizes' ≡ arrived_sizes (paired w s o t) w a.answer sizes size)

module _ (s : Shared) (o t : State) (handles sizes : List ℕ) (clock size : ℕ) (ecn : Bool) (u : ℕ) (v : Verdict) where
  abbrev pub Made : Which → Type 0
  Made w =
      arrival (paired w s o t) w handles sizes clock size ecn u
      ≡ record {
        answer = verdict v;
        pair = paired w (storing s (arrived_store s.store sizes v)) (arrived_state o clock size (free_place s.store) v) t;
      }

  abbrev pub After : State
  After = arrived_state o clock size (free_place s.store) v

  pub dropped-gives : (w : Which) → Made w → admitted v ≡ false → (handle : ℕ) (sh ow ow' : List ℕ) →
      sh ≡ shared_words s → ow' ≡ state_words ow After →
      GivesArrival w s o t handles sizes clock size ecn u (verdict v) handle sh sh ow ow' handles sizes
  unfolding arrived_store
  dropped-gives Intercom m e handle sh ow ow' es eo = rw (m, e) (refl, es, eo, refl, refl)
  dropped-gives Passengers m e handle sh ow ow' es eo = rw (m, e) (refl, es, eo, refl, refl)

  pub admitted-gives : (w : Which) → Made w → admitted v ≡ true → (handle : ℕ) (sh sh' ow ow' handles' sizes' : List ℕ) →
      sh' ≡ shared_words (storing s (store_after_put s.store sizes)) → ow' ≡ state_words ow After →
      handles' ≡ handles_after_put handles (free_place s.store) handle →
      sizes' ≡ sizes_after_put o.ends o.backlog.count sizes (free_place s.store) size →
      GivesArrival w s o t handles sizes clock size ecn u (verdict v) handle sh sh' ow ow' handles' sizes'
  unfolding arrived_store
  admitted-gives Intercom m e handle sh sh' ow ow' handles' sizes' es eo eh ez = rw (m, e) (refl, es, eo, eh, ez)
  admitted-gives Passengers m e handle sh sh' ow ow' handles' sizes' es eo eh ez = rw (m, e) (refl, es, eo, eh, ez)
