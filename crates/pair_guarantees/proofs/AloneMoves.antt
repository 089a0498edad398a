-- What a call does to a queue alone: packets enter at the tail and leave at the head, the bytes move alike, a verdict is counted, and
-- neither 2 nor 9 is given.
use mathlib.Core.Path.{◌≡◌, refl, ap, sym, ◌∙◌}
use mathlib.Core.Bool.{Bool, true, false, cond}
use mathlib.Core.Logic.{◌≢◌}
use mathlib.Core.List.{List, [], ◌∷◌, ◌++◌, append-nil}
use Prim.Native.Nat.{ℕ, zero, suc, ◌+◌}
use native.Mathlib.Omega.{arith}
use borrow.Author.Tests.{eqb-false}
use lib.Dec.{eqb}
use Rattle.laws.specs.Every.{Every}
use Rattle.laws.proofs.Choice.{either}
use Rattle.calls.specs.Packets.{Packet, Sized, bytes_of}
use Rattle.calls.proofs.Packets.{bytes-append, sized-append}
use Rattle.calls.specs.Requests.{Request, admitted_by, ask_arrival, ask_departure, ask_tick, departed_by}
use Rattle.ring_guarantees.proofs.Answers.{counted_by, length-counted}
use Rattle.pie.specs.Backlog.{entered}
use Rattle.pie.specs.Verdicts.{admitted}
use Rattle.pie.specs.declared.Backlog.{Backlog}
use Rattle.pie.specs.declared.Verdict.{Verdict}
use Rattle.refusals.specs.Answer.{Answer, refused, verdict}
use Rattle.refusals.proofs.Fitting.{size-in-range}
use Rattle.refusals.proofs.Ordered.{none-refuses}
use Rattle.refusals.specs.Rows.{first_refusal}
use Rattle.pair_rules.specs.Arrival.{arrived_state}
use Rattle.pair_rules.specs.Departure.{departed_state}
use Rattle.pair_rules.specs.Tick.{ticked_state}
use Rattle.pair_guarantees.proofs.Alone.{AloneReply, View, alone_acceptance, alone_number, alone_reply, alone_rows, alone_unless}
use Rattle.pair_guarantees.proofs.Alone.{alone_verdict, head_taken, judged}
use Rattle.pair_guarantees.proofs.Whole.{Held}

-- what holds of a refusal and of the acceptance holds of the reply
pub at-reply : (P : AloneReply → Type 0) (v : View) (full : Bool) (r : Request) →
    ((n : ℕ) → alone_number v r ≡ suc n → P (record { answer = refused (suc n); view = v })) →
    (alone_number v r ≡ 0 → P (alone_acceptance v full r)) → P (alone_reply v full r)
at-reply P v full r some none = go (alone_number v r) refl
  where
    go : (n : ℕ) → alone_number v r ≡ n → P (alone_unless (alone_number v r) v (alone_acceptance v full r))
    go zero e = rw e (none e)
    go (suc n) e = rw e (some n e)

pub record Moves (v : View) (r : Request) (a : Answer) (v' : View) : Type 0 where
  pub order : v.packets ++ admitted_by r a ≡ departed_by a ++ v'.packets
  pub bytes : v'.state.backlog.bytes.0 + bytes_of (departed_by a) ≡ v.state.backlog.bytes.0 + bytes_of (admitted_by r a)
  pub sized : Sized (admitted_by r a)
  pub counted : v'.state.verdicts ≡ counted_by a v.state.verdicts
  pub held : Held v'

refused-moves : (v : View) (r : Request) (n : ℕ) → Held v → Moves v r (refused n) v
refused-moves v r n h = record { order = append-nil v.packets; bytes = refl; sized = tt; counted = refl; held = h }

judged-moves : (v : View) (clock handle size : ℕ) (ecn : Bool) (u : ℕ) (d : Verdict) → Held v →
    alone_number v (ask_arrival clock handle size ecn u) ≡ 0 →
    let m = judged v clock handle size d in Moves v (ask_arrival clock handle size ecn u) m.answer m.view
unfolding arrived_state
judged-moves v clock handle size ecn u d h none =
    record {
      order = refl;
      bytes = moved (admitted d);
      sized = one;
      counted = refl;
      held =
          record {
            bytes = held (admitted d);
            sized = sized-append v.packets entering h.sized one;
            five = length-counted v.state.verdicts (verdict d) ∙ h.five;
          };
    }
  where
    b : Backlog
    b = v.state.backlog

    entering : List Packet
    entering = cond (admitted d) (record { handle = handle; size = size } ∷ []) []

    one : Sized (cond (admitted d) (record { handle = handle; size = size } ∷ []) [])
    one =
        let range = size-in-range size (none-refuses (alone_rows v (ask_arrival clock handle size ecn u)) refl none 2) in
        either Sized (admitted d) (record { handle = handle; size = size } ∷ []) [] (range.0, range.1, tt) tt

    moved : (t : Bool) → (cond t (entered b size) b).bytes.0 + 0
        ≡ b.bytes.0 + bytes_of (cond t (record { handle = handle; size = size } ∷ []) [])
    moved true = omega arith
    moved false = omega arith

    held : (t : Bool) → (cond t (entered b size) b).bytes.0
        ≡ bytes_of (v.packets ++ cond t (record { handle = handle; size = size } ∷ []) [])
    held true = omega (arith, h.bytes, bytes-append v.packets (record { handle = handle; size = size } ∷ []))
    held false = h.bytes ∙ ap bytes_of (sym (append-nil v.packets))

taken-moves : (v : View) (clock : ℕ) (ps : List Packet) → Held v → v.packets ≡ ps →
    let m = head_taken v clock ps in Moves v (ask_departure clock) m.answer m.view
unfolding departed_state
taken-moves v clock [] h e = refused-moves v (ask_departure clock) 6 h
taken-moves v clock (p ∷ ps) h e =
    let sized : Sized (p ∷ ps) = rw e at h.sized in
    let bytes : v.state.backlog.bytes.0 ≡ p.size + bytes_of ps = h.bytes ∙ ap bytes_of e in
    record {
      order = append-nil v.packets ∙ e;
      bytes = omega arith;
      sized = tt;
      counted = refl;
      held = record { bytes = omega arith; sized = sized.2; five = h.five };
    }

accepted-moves : (v : View) (full : Bool) (r : Request) → Held v → alone_number v r ≡ 0 →
    let m = alone_acceptance v full r in Moves v r m.answer m.view
unfolding ticked_state
accepted-moves v full (ask_arrival clock handle size ecn u) h none =
    judged-moves v clock handle size ecn u (alone_verdict v.state full size ecn u) h none
accepted-moves v full (ask_departure clock) h none = taken-moves v clock v.packets h refl
accepted-moves v full (ask_tick clock) h none =
    record {
      order = append-nil v.packets;
      bytes = refl;
      sized = tt;
      counted = refl;
      held = record { bytes = h.bytes; sized = h.sized; five = h.five };
    }

pub alone-moves : (v : View) (full : Bool) (r : Request) → Held v →
    let m = alone_reply v full r in Moves v r m.answer m.view
alone-moves v full r h =
    at-reply (λ m. Moves v r m.answer m.view) v full r (λ n e. refused-moves v r (suc n) h) (accepted-moves v full r h)

-- ── numbers that are not given ──

abbrev Others : ℕ → Type 0
Others n = (n ≢ 2) × (n ≢ 9)

-- 2 and 9 are in no row
rows-others : (rows : List (ℕ × Bool)) → Every (λ (row : ℕ × Bool). Others row.0) rows → Others (first_refusal rows)
rows-others [] all = ((λ e. omega arith), (λ e. omega arith))
rows-others ((n, true) ∷ rows) all = all.0
rows-others ((n, false) ∷ rows) all = rows-others rows all.1

other-number : (n : ℕ) → eqb n 2 ≡ false → eqb n 9 ≡ false → Others n
other-number n e f = (eqb-false n 2 e, eqb-false n 9 f)

number-others : (v : View) (r : Request) → Others (alone_number v r)
number-others v (ask_arrival clock handle size ecn u) =
    rows-others (alone_rows v (ask_arrival clock handle size ecn u))
    (other-number 3 refl refl, (other-number 4 refl refl, (other-number 7 refl refl, (other-number 8 refl refl, tt))))
number-others v (ask_departure clock) =
    rows-others (alone_rows v (ask_departure clock)) (other-number 3 refl refl, (other-number 4 refl refl, (other-number 6 refl refl, tt)))
number-others v (ask_tick clock) = rows-others (alone_rows v (ask_tick clock)) (other-number 4 refl refl, (other-number 5 refl refl, tt))

abbrev Never : Answer → Type 0
Never a = (a ≢ refused 2) × (a ≢ refused 9)

taken-never : (v : View) (clock : ℕ) (ps : List Packet) → Never (head_taken v clock ps).answer
taken-never v clock [] =
    ((λ e. let z : ◌≡◌ {A = ℕ} 6 2 = cc in omega arith), (λ e. let z : ◌≡◌ {A = ℕ} 6 9 = cc in omega arith))
taken-never v clock (p ∷ ps) =
    ((λ e. let z : ◌≡◌ {A = ℕ} 0 1 = cc in omega arith), (λ e. let z : ◌≡◌ {A = ℕ} 0 1 = cc in omega arith))

accepted-never : (v : View) (full : Bool) (r : Request) → Never (alone_acceptance v full r).answer
accepted-never v full (ask_arrival clock handle size ecn u) =
    ((λ e. let z : ◌≡◌ {A = ℕ} 0 1 = cc in omega arith), (λ e. let z : ◌≡◌ {A = ℕ} 0 1 = cc in omega arith))
accepted-never v full (ask_departure clock) = taken-never v clock v.packets
accepted-never v full (ask_tick clock) =
    ((λ e. let z : ◌≡◌ {A = ℕ} 0 1 = cc in omega arith), (λ e. let z : ◌≡◌ {A = ℕ} 0 1 = cc in omega arith))

pub never : (v : View) (full : Bool) (r : Request) → Never (alone_reply v full r).answer
never v full r =
    at-reply (λ m. Never m.answer) v full r
    (λ n e.
    let o = number-others v r in
    ((λ t. let z : suc n ≡ 2 = cc in o.0 (e ∙ z)), (λ t. let z : suc n ≡ 9 = cc in o.1 (e ∙ z))))
    (λ e. accepted-never v full r)
