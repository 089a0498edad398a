-- What a call gives, by what the library's functions find of the records as the called queue sees them.
use mathlib.Core.Path.{◌≡◌, refl}
use mathlib.Core.Bool.{Bool, false}
use mathlib.Core.List.{List, [], ◌∷◌, ◌++◌}
use Prim.Native.Nat.{ℕ}
use lib.ListN.{length}
use Rattle.pie.specs.Verdicts.{admitted}
use Rattle.pie.specs.declared.Verdict.{Verdict}
use Rattle.refusals.specs.Answer.{departed, ticked, verdict}
use Rattle.refusals.specs.Rows.{first_refusal}
use Rattle.refusals.specs.Tests.{size_refused}
use Rattle.store.specs.Put.{free_place}
use Rattle.store.specs.Take.{store_after_take}
use Rattle.pair_rules.specs.Answer.{unless_refused}
use Rattle.pair_rules.specs.Arrival.{arrival, arrival_refusal, arrived_state, arrived_store, freed_refused, verdict_of}
use Rattle.pair_rules.specs.Departure.{departed_state, departure, departure_refusal, head_handle, head_size}
use Rattle.pair_rules.specs.Facing.{facing}
use Rattle.pair_rules.specs.Queues.{paired, storing}
use Rattle.pair_rules.specs.Refusals.{clock_refused, counts_refused, pair_refused, tables_refused}
use Rattle.pair_rules.specs.Tick.{tick, tick_refusal, ticked_state}
use Rattle.pair_rules.specs.declared.Shared.{Shared}
use Rattle.pair_rules.specs.declared.State.{State}
use Rattle.pair_rules.specs.declared.Which.{Which}
use Rattle.pair_rules.specs.declared.Which.TheVariants.{Intercom, Passengers}
use Rattle.pair_rules.proofs.Symmetry.{seen, well-formed-seen}
use Rattle.pair_rules.proofs.Seen.{verdict-seen}

-- ── a tick ──

pub tick-reply : (w : Which) (s : Shared) (o t : State) (clock : ℕ) →
    tick (paired w s o t) w clock
    ≡ unless_refused (tick_refusal (seen w s o t) Intercom clock) (paired w s o t)
    (record { answer = ticked; pair = paired w s (ticked_state o clock) t })
unfolding tick tick_refusal
tick-reply Intercom s o t clock = refl
tick-reply Passengers s o t clock = rw (well-formed-seen Passengers s o t)

-- ── a departure ──

pub departure-reply : (w : Which) (s : Shared) (o t : State) (handles sizes : List ℕ) (clock : ℕ) →
    departure (paired w s o t) w handles sizes clock
    ≡ unless_refused (departure_refusal (seen w s o t) Intercom (length handles) sizes clock) (paired w s o t)
    (record {
      answer = departed (head_handle o handles) (head_size o sizes);
      pair = paired w (storing s (store_after_take s.store o.ends.head)) (departed_state o sizes clock (head_size o sizes)) t;
    })
unfolding departure departure_refusal
departure-reply Intercom s o t handles sizes clock = refl
departure-reply Passengers s o t handles sizes clock = rw (well-formed-seen Passengers s o t)

-- ── an arrival ──

-- the refusals that come before the verdict
abbrev pub early : Shared → (o t : State) (handles_length sizes_length clock size : ℕ) → List (ℕ × Bool)
early f o t handles_length sizes_length clock size =
    (2, pair_refused (paired Intercom f o t))
    ∷ (3, tables_refused f handles_length sizes_length)
    ∷ (4, clock_refused o clock)
    ∷ (7, size_refused size)
    ∷ (8, counts_refused o)
    ∷ []

pub arrival-reply : (w : Which) (s : Shared) (o t : State) (handles sizes : List ℕ) (clock size : ℕ) (ecn : Bool) (u : ℕ) →
    let v = verdict_of (seen w s o t) Intercom size ecn u in
    arrival (paired w s o t) w handles sizes clock size ecn u
    ≡ unless_refused
    (first_refusal (early (facing w s) o t (length handles) (length sizes) clock size ++ (9, freed_refused s sizes v) ∷ []))
    (paired w s o t)
    (record {
      answer = verdict v;
      pair = paired w (storing s (arrived_store s.store sizes v)) (arrived_state o clock size (free_place s.store) v) t;
    })
unfolding arrival arrival_refusal
arrival-reply Intercom s o t handles sizes clock size ecn u = refl
arrival-reply Passengers s o t handles sizes clock size ecn u =
    rw (well-formed-seen Passengers s o t, verdict-seen Passengers s o t size ecn u)

-- a packet that is dropped needs no slot: no link refuses it
pub dropped-kept : (s : Shared) (sizes : List ℕ) (v : Verdict) → admitted v ≡ false → freed_refused s sizes v ≡ false
dropped-kept s sizes v e = rw e
