-- What one call keeps of each of two queues: either is a kind of queue of crate calls.
use mathlib.Core.Path.{◌≡◌, ap, subst, sym, ◌∙◌}
use mathlib.Core.Bool.{cond}
use mathlib.Core.Logic.{◌≢◌}
use mathlib.Core.List.{◌++◌, append-nil}
use Prim.Native.Nat.{◌+◌}
use native.Mathlib.Omega.{arith}
use lib.ListN.{get_or, length}
use Rattle.calls.specs.Conservation.{Keeps, Readings}
use Rattle.calls.specs.Packets.{Sized, bytes_of}
use Rattle.calls.specs.Requests.{Request}
use Rattle.ring_guarantees.proofs.Answers.{counted-at}
use Rattle.pie.specs.Verdicts.{place_of}
use Rattle.pie.specs.declared.Verdict.{Verdict}
use Rattle.refusals.specs.Answer.{refused}
use Rattle.pair_rules.specs.Queues.{own}
use Rattle.pair_rules.specs.declared.Which.{Which}
use Rattle.pair_rules.specs.declared.Which.TheVariants.{Intercom, Passengers}
use Rattle.pair_rules.specs.Arrival.{slots_full}
use Rattle.pair_guarantees.specs.Conservation.{is_verdict}
use Rattle.pair_guarantees.specs.Handed.{Answered, Call, Queues, admitted_by, after, answer_of, departed_by, one_of_two, queued, reply_to}
use Rattle.pair_guarantees.specs.Handed.{returned}
use Rattle.pair_guarantees.proofs.Alone.{View, alone_reply}
use Rattle.pair_guarantees.proofs.AloneMoves.{Moves, alone-moves, never}
use Rattle.pair_guarantees.proofs.Chained.{count-queued, the_other}
use Rattle.pair_guarantees.proofs.Refines.{steps}
use Rattle.pair_guarantees.proofs.Whole.{Held, Whole, view_of}

abbrev pub readings : (w : Which) → Readings (one_of_two w)
readings w =
    record {
      bytes = λ q. (own w q.pair).backlog.bytes.0;
      count = λ q. (own w q.pair).backlog.count;
      counted = λ q v. get_or (own w q.pair).verdicts (place_of v) 0;
      is_verdict = is_verdict w;
      refused = λ number. record { queue = w; answer = refused number };
    }

-- what holds of the called queue and of the other holds of either
pub of-both : (P : Which → Type 0) (w : Which) → P w → P (the_other w) → (any : Which) → P any
of-both P Intercom mine others Intercom = mine
of-both P Intercom mine others Passengers = others
of-both P Passengers mine others Intercom = others
of-both P Passengers mine others Passengers = mine

-- ── the called queue, and the other ──

own-moves : (w : Which) (q : Queues) (r : Request) → Whole q →
    Moves (view_of w q) r (reply_to q w r).answer (view_of w (returned q w r (reply_to q w r)))
own-moves w q r h =
    let s = steps w q r h in
    let m = alone_reply (view_of w q) (slots_full q.pair w) r in
    let moves = alone-moves (view_of w q) (slots_full q.pair w) r (h.held w) in
    subst (λ a. Moves (view_of w q) r a (view_of w (returned q w r (reply_to q w r)))) (sym s.answer)
    (subst (λ v. Moves (view_of w q) r m.answer v) (sym s.view) moves)

pub whole-kept : (q : Queues) (c : Call) → Whole q → Whole (after q c)
whole-kept q c h =
    let w = c.queue in
    let s = steps w q c.asked h in
    record {
      formed = s.formed;
      linked = s.linked;
      held =
          of-both (λ any. Held (view_of any (after q c))) w
          (own-moves w q c.asked h).held
          (subst Held (sym s.others) (h.held (the_other w)));
    }

-- ── what a call moves of a queue ──

record Moved (w : Which) (q : Queues) (c : Call) : Type 0 where
  order : queued w q ++ admitted_by w c (answer_of q c) ≡ departed_by w (answer_of q c) ++ queued w (after q c)
  bytes : (own w (after q c).pair).backlog.bytes.0 + bytes_of (departed_by w (answer_of q c))
      ≡ (own w q.pair).backlog.bytes.0 + bytes_of (admitted_by w c (answer_of q c))
  sized : Sized (admitted_by w c (answer_of q c))
  counted : (v : Verdict) →
      get_or (own w (after q c).pair).verdicts (place_of v) 0
      ≡ get_or (own w q.pair).verdicts (place_of v) 0 + cond (is_verdict w v (answer_of q c)) 1 0

moved-own : (w : Which) (q : Queues) (r : Request) → Whole q → Moved w q (record { queue = w; asked = r })
moved-own w q r h = go w (own-moves w q r h) (h.held w).five
  where
    go : (w : Which) → Moves (view_of w q) r (reply_to q w r).answer (view_of w (returned q w r (reply_to q w r))) →
        length (own w q.pair).verdicts ≡ 5 → Moved w q (record { queue = w; asked = r })
    go Intercom m five =
        record {
          order = m.order;
          bytes = m.bytes;
          sized = m.sized;
          counted =
              λ v.
              ap (λ c. get_or c (place_of v) 0) m.counted
              ∙ counted-at q.pair.intercom.verdicts (reply_to q Intercom r).answer v five;
        }
    go Passengers m five =
        record {
          order = m.order;
          bytes = m.bytes;
          sized = m.sized;
          counted =
              λ v.
              ap (λ c. get_or c (place_of v) 0) m.counted
              ∙ counted-at q.pair.passengers.verdicts (reply_to q Passengers r).answer v five;
        }

-- the other's call moves nothing
moved_other : (w : Which) (q : Queues) (r : Request) → Whole q → Moved (the_other w) q (record { queue = w; asked = r })
moved_other w q r h = go w (steps w q r h).others
  where
    go : (w : Which) → view_of (the_other w) (returned q w r (reply_to q w r)) ≡ view_of (the_other w) q →
        Moved (the_other w) q (record { queue = w; asked = r })
    go Intercom e =
        record {
          order = append-nil (queued Passengers q) ∙ sym (ap (λ (v : View). v.packets) e);
          bytes = ap (λ (v : View). v.state.backlog.bytes.0 + 0) e;
          sized = tt;
          counted = λ k. ap (λ (v : View). get_or v.state.verdicts (place_of k) 0) e ∙ omega arith;
        }
    go Passengers e =
        record {
          order = append-nil (queued Intercom q) ∙ sym (ap (λ (v : View). v.packets) e);
          bytes = ap (λ (v : View). v.state.backlog.bytes.0 + 0) e;
          sized = tt;
          counted = λ k. ap (λ (v : View). get_or v.state.verdicts (place_of k) 0) e ∙ omega arith;
        }

moved : (w : Which) (q : Queues) (c : Call) → Whole q → Moved w q c
moved w q c h =
    of-both (λ any. Moved any q c) c.queue (moved-own c.queue q c.asked h) (moved_other c.queue q c.asked h) w

-- ── the kind ──

pub queue-keeps : (w : Which) → Keeps (one_of_two w) (readings w) Whole
queue-keeps w =
    record {
      sound = whole-kept;
      order = λ q c h. (moved w q c h).order;
      bytes = λ q c h. (moved w q c h).bytes;
      sized = λ q c h. (moved w q c h).sized;
      count = λ q h. count-queued w q;
      counted = λ q c h v. (moved w q c h).counted v;
      not-2 = λ q c h e. (never-given q c h).0 (ap (λ (a : Answered). a.answer) e);
      not-9 = λ q c h held e. (never-given q c h).1 (ap (λ (a : Answered). a.answer) e);
    }
  where
    never-given : (q : Queues) (c : Call) → Whole q →
        ((reply_to q c.queue c.asked).answer ≢ refused 2) × ((reply_to q c.queue c.asked).answer ≢ refused 9)
    never-given q c h =
        let w = c.queue in
        let n = never (view_of w q) (slots_full q.pair w) c.asked in
        let same = (steps w q c.asked h).answer in
        ((λ e. n.0 (sym same ∙ e)), (λ e. n.1 (sym same ∙ e)))
