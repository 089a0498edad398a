-- The records of accepted calls have no fault, and each of their fields fits its width.
use mathlib.Core.Path.{◌≡◌, refl, sym, subst}
use mathlib.Core.Bool.{Bool, true, false, cond}
use mathlib.Core.List.{List, [], ◌∷◌, ◌++◌}
use Prim.Native.Nat.{ℕ, zero, suc, ◌+◌, ◌^◌, ◌<◌, ◌≤◌}
use native.Mathlib.Omega.{arith}
use borrow.Author.Tests.{le-leb}
use lib.ListN.{length}
use Rattle.units.specs.Kinds.{whole}
use Rattle.pie.specs.Constants.{largest, latest}
use Rattle.pie.specs.Verdicts.{place_of}
use Rattle.pie.specs.declared.Verdict.{Verdict}
use Rattle.pie.specs.declared.Verdict.TheVariants.{Enqueued, Marked, DroppedBytes, DroppedSlots, DroppedEarly}
use Rattle.ring.specs.Activity.{begun}
use Rattle.refusals.specs.Answer.{Answer, admits, departed, made, refused, ticked, verdict}
use Rattle.ring.specs.Answer.{Reply}
use Rattle.ring.specs.Arrival.{arrival_refusal, verdict_of}
use Rattle.ring.specs.Departure.{departure_refusal, head_of}
use Rattle.ring.specs.State.{well_formed}
use Rattle.ring.specs.Tick.{tick_refusal}
use Rattle.ring.specs.declared.State.{State}
use Rattle.ring.proofs.Facts.{Facts, facts}
use Rattle.ring.proofs.WhenAccepted.{arrival-accepted, departure-accepted, tick-accepted}
use Rattle.log_codec.specs.Records.{InRange}
use Rattle.log_codec.specs.declared.Record.{Record}
use Rattle.calls.specs.Packets.{Packet}
use Rattle.ring.specs.Calls.{Queue, after, answer_of, call_of}
use Rattle.ring_guarantees.specs.Handed.{queued}
use Rattle.calls.specs.Requests.{Request, admitted_by, ask_arrival, ask_departure, ask_tick, brought, departed_by}
use Rattle.ring_guarantees.proofs.Moves.{moved}
use Rattle.ring_guarantees.proofs.Replies.{number_given, reply-well-formed}
use Rattle.call_log.specs.Faults.{faulty, most_bytes}
use Rattle.call_log.specs.Whole.{any_faulty}
use Rattle.log_guarantees.specs.Run.{AllInRange}
use Rattle.replay.specs.Agreement.{verdict_in}
use Rattle.replay.specs.Replied.{bytes_in, prob_in}
use Rattle.replay_guarantees.specs.Recorded.{AllFit, Fits, line, recorded}
use Rattle.replay_guarantees.proofs.Agrees.{kept, recorded-accepted, recorded-refused}
use Rattle.replay_guarantees.proofs.SameCalls.{accepted-reply, after-state}

-- ── a record ──

pub record Fine (r : Record) : Type 0 where
  pub faultless : faulty r ≡ false
  pub in-range : InRange r

arrival-fine : (e handle clock size u : ℕ) (a : Answer) (s : State) → e ≤ 1 → handle < 2 ^ 32 → clock ≤ latest → 1 ≤ size → size ≤ largest →
    u < 2 ^ 32 → verdict_in a ≤ 4 → Facts s → Fine (line 97 e handle clock size u a s)
unfolding faulty
arrival-fine e handle clock size u a s flag small time low high chance place f =
    record {
      faultless =
          simp (
            le-leb e 1 flag,
            le-leb clock latest time,
            le-leb 1 size low,
            le-leb size largest high,
            le-leb (verdict_in a) 4 place,
            le-leb (bytes_in s) most_bytes (omega (arith, f.bytes_fit, f.buffer-high)),
            le-leb (prob_in s) whole f.prob-high,
          );
      in-range = omega (arith, f.bytes_fit, f.buffer-high, f.prob-high);
    }

departure-fine : (clock : ℕ) (a : Answer) (s : State) → clock ≤ latest → verdict_in a < 2 ^ 32 → Facts s → Fine (line 100 0 0 clock 0 0 a s)
unfolding faulty
departure-fine clock a s time small f =
    record {
      faultless =
          simp (
            le-leb clock latest time,
            le-leb (bytes_in s) most_bytes (omega (arith, f.bytes_fit, f.buffer-high)),
            le-leb (prob_in s) whole f.prob-high,
          );
      in-range = omega (arith, f.bytes_fit, f.buffer-high, f.prob-high);
    }

tick-fine : (clock : ℕ) (a : Answer) (s : State) → clock ≤ latest → verdict_in a ≡ 0 → Facts s → Fine (line 116 0 0 clock 0 0 a s)
unfolding faulty
tick-fine clock a s time none f =
    record {
      faultless =
          simp (
            none,
            le-leb clock latest time,
            le-leb (bytes_in s) most_bytes (omega (arith, f.bytes_fit, f.buffer-high)),
            le-leb (prob_in s) whole f.prob-high,
          );
      in-range = omega (arith, f.bytes_fit, f.buffer-high, f.prob-high);
    }

-- ── the handles that are queued are 32-bit numbers ──

abbrev Small : List Packet → Type 0
Small [] = Unit
Small (p ∷ ps) = (p.handle < 2 ^ 32) × Small ps

small-append : (ps qs : List Packet) → Small ps → Small qs → Small (ps ++ qs)
small-append [] qs a b = b
small-append (p ∷ ps) qs a b = (a.0, small-append ps qs a.1 b)

small-parts : (ps qs : List Packet) → Small (ps ++ qs) → Small ps × Small qs
small-parts [] qs a = (tt, a)
small-parts (p ∷ ps) qs a = let t = small-parts ps qs a.1 in ((a.0, t.0), t.1)

brought-small : (r : Request) → Fits r → Small (brought r)
brought-small (ask_arrival clock handle size ecn u) f = (f.0, tt)
brought-small (ask_departure clock) f = tt
brought-small (ask_tick clock) f = tt

admitted-small : (r : Request) (a : Answer) → Fits r → Small (admitted_by r a)
admitted-small r a f = go (admits a)
  where
    go : (b : Bool) → Small (cond b (brought r) [])
    go true = brought-small r f
    go false = tt

place-small : (v : Verdict) → place_of v ≤ 4
place-small Enqueued = omega arith
place-small Marked = omega arith
place-small DroppedBytes = omega arith
place-small DroppedSlots = omega arith
place-small DroppedEarly = omega arith

verdict-small : (a : Answer) → Small (departed_by a) → verdict_in a < 2 ^ 32
verdict-small (refused number) d = omega arith
verdict-small made d = omega arith
verdict-small (verdict v) d = omega (arith, place-small v)
verdict-small (departed handle size) d = d.0
verdict-small ticked d = omega arith

-- ── a queue ──

pub record Sound (q : Queue) : Type 0 where
  pub formed : well_formed q.state ≡ true
  pub small : Small (queued q)

sound-after : (q : Queue) (r : Request) → Fits r → Sound q → Small (departed_by (answer_of q r)) × Sound (after q r)
sound-after q r f k =
    let m = moved q r in
    let a = answer_of q r in
    let all = rw m.order at (small-append (queued q) (admitted_by r a) k.small (admitted-small r a f)) in
    let parts = small-parts (departed_by a) (queued (after q r)) all in (
      parts.0,
      record {
        formed = rw (after-state q r) (reply-well-formed q.state k.formed (call_of q r));
        small = parts.1;
      },
    )

flag_small : (t : Bool) → cond {A = ℕ} t 1 0 ≤ 1
flag_small true = omega arith
flag_small false = omega arith

fine-kept : (q : Queue) (r : Request) → Fits r → Sound q → number_given q.state (call_of q r) ≡ 0 → Fine (kept q r)
unfolding arrival_refusal departure_refusal tick_refusal
fine-kept q (ask_arrival clock handle size ecn u) f k e =
    let r = ask_arrival clock handle size ecn u in
    let s = q.state in
    let a = arrival-accepted s (length q.handles) (length q.sizes) clock size e in
    let place : verdict_in (answer_of q r) ≤ 4 =
    subst (λ (p : Reply). verdict_in p.answer ≤ 4) (sym (accepted-reply s (call_of q r) e)) (place-small (verdict_of (begun s) size ecn u)) in
    arrival-fine (cond ecn 1 0) handle clock size u (answer_of q r) (after q r).state (flag_small ecn) f.0 a.clock-high
    a.size_low a.size-high f.1 place (facts (after q r).state (sound-after q r f k).1.formed)
fine-kept q (ask_departure clock) f k e =
    let r = ask_departure clock in
    let s = q.state in
    let a = departure-accepted s (length q.handles) (length q.sizes) clock (head_of s q.sizes) e in
    let t = sound-after q r f k in
    departure-fine clock (answer_of q r) (after q r).state a.clock-high (verdict-small (answer_of q r) t.0)
    (facts (after q r).state t.1.formed)
fine-kept q (ask_tick clock) f k e =
    let r = ask_tick clock in
    let s = q.state in
    let a = tick-accepted s clock e in
    let none : verdict_in (answer_of q r) ≡ 0 =
    subst (λ (p : Reply). verdict_in p.answer ≡ 0) (sym (accepted-reply s (call_of q r) e)) refl in
    tick-fine clock (answer_of q r) (after q r).state a.clock-high none (facts (after q r).state (sound-after q r f k).1.formed)

-- ── all calls ──

abbrev AllFine : List Record → Type 0
AllFine records = AllInRange records × (any_faulty records ≡ false)

cons-fine : (r : Record) (rs : List Record) → Fine r → AllFine rs → AllFine (r ∷ rs)
cons-fine r rs f g = ((f.in-range, g.0), rw f.faultless g.1)

one_more : (r : Request) (requests : List Request) (q : Queue) → Fits r → Sound q → AllFine (recorded (after q r) requests) →
    (n : ℕ) → number_given q.state (call_of q r) ≡ n → AllFine (recorded q (r ∷ requests))
one_more r requests q f k others zero e =
    subst AllFine (sym (recorded-accepted q r requests e))
    (cons-fine (kept q r) (recorded (after q r) requests) (fine-kept q r f k e) others)
one_more r requests q f k others (suc n) e =
    subst AllFine (sym (recorded-refused q r requests (λ z. omega (arith, e, z))).0) others

pub all-fine : (requests : List Request) (q : Queue) → AllFit requests → Sound q → AllFine (recorded q requests)
all-fine [] q f k = (tt, refl)
all-fine (r ∷ requests) q f k =
    one_more r requests q f.0 k (all-fine requests (after q r) f.1 (sound-after q r f.0 k).1)
    (number_given q.state (call_of q r)) refl
