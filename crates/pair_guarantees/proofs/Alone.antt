-- One queue alone: its state, its packets as a list, and whether its tables fit. There is no place, no link and no other queue in it;
-- whether rule 2 holds is told.
use mathlib.Core.Bool.{Bool, cond}
use mathlib.Core.List.{List, [], ◌∷◌, ◌++◌}
use Prim.Native.Nat.{ℕ, zero, suc}
use Rattle.calls.specs.Packets.{Packet}
use Rattle.calls.specs.Requests.{Request, ask_arrival, ask_departure, ask_tick}
use Rattle.pie.specs.DropDecision.{drop_decision}
use Rattle.pie.specs.Verdicts.{admitted}
use Rattle.pie.specs.declared.Verdict.{Verdict}
use Rattle.pie.specs.declared.Verdict.TheVariants.{DroppedBytes, DroppedSlots}
use Rattle.refusals.specs.Answer.{Answer, departed, refused, ticked, verdict}
use Rattle.refusals.specs.Rows.{first_refusal}
use Rattle.refusals.specs.Tests.{size_refused}
use Rattle.pair_rules.specs.declared.State.{State}
use Rattle.pair_rules.specs.Arrival.{arrived_state, bytes_full}
use Rattle.pair_rules.specs.Departure.{departed_state}
use Rattle.pair_rules.specs.Refusals.{clock_refused, counts_refused, empty_refused, too_soon_refused}
use Rattle.pair_rules.specs.Tick.{ticked_state}
use Rattle.pair_guarantees.specs.Isolation.{without_ends}

pub record View : Type 0 where
  pub state : State
  pub packets : List Packet
  pub unfit : Bool

pub record AloneReply : Type 0 where
  pub answer : Answer
  pub view : View

abbrev pub alone_rows : View → Request → List (ℕ × Bool)
alone_rows v (ask_arrival clock handle size ecn u) =
    (3, v.unfit) ∷ (4, clock_refused v.state clock) ∷ (7, size_refused size) ∷ (8, counts_refused v.state) ∷ []
alone_rows v (ask_departure clock) = (3, v.unfit) ∷ (4, clock_refused v.state clock) ∷ (6, empty_refused v.state) ∷ []
alone_rows v (ask_tick clock) = (4, clock_refused v.state clock) ∷ (5, too_soon_refused v.state clock) ∷ []

abbrev pub alone_verdict : State → (full : Bool) (size : ℕ) (ecn : Bool) (u : ℕ) → Verdict
alone_verdict s full size ecn u =
    cond (bytes_full s size) DroppedBytes
    (cond full DroppedSlots
    (drop_decision s.pie s.settings.target.0 s.backlog.bytes.0 ecn u))

-- the first packet leaves
abbrev pub head_taken : View → (clock : ℕ) → List Packet → AloneReply
head_taken v clock [] = record { answer = refused 6; view = v }
head_taken v clock (p ∷ ps) =
    record {
      answer = departed p.handle p.size;
      view = record { state = without_ends (departed_state v.state [] clock p.size); packets = ps; unfit = v.unfit };
    }

-- a packet is so judged
abbrev pub judged : View → (clock handle size : ℕ) → Verdict → AloneReply
judged v clock handle size d =
    record {
      answer = verdict d;
      view =
          record {
            state = without_ends (arrived_state v.state clock size 0 d);
            packets = v.packets ++ cond (admitted d) (record { handle = handle; size = size } ∷ []) [];
            unfit = v.unfit;
          };
    }

abbrev pub alone_acceptance : View → (full : Bool) → Request → AloneReply
alone_acceptance v full (ask_arrival clock handle size ecn u) = judged v clock handle size (alone_verdict v.state full size ecn u)
alone_acceptance v full (ask_departure clock) = head_taken v clock v.packets
alone_acceptance v full (ask_tick clock) =
    record {
      answer = ticked;
      view = record { state = without_ends (ticked_state v.state clock); packets = v.packets; unfit = v.unfit };
    }

abbrev pub alone_unless : (number : ℕ) → View → AloneReply → AloneReply
alone_unless zero v accepted = accepted
alone_unless (suc n) v accepted = record { answer = refused (suc n); view = v }

abbrev pub alone_number : View → Request → ℕ
alone_number v r = first_refusal (alone_rows v r)

abbrev pub alone_reply : View → (full : Bool) → Request → AloneReply
alone_reply v full r = alone_unless (alone_number v r) v (alone_acceptance v full r)
