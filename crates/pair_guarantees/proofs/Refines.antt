-- A call on one of two queues is a call on the queue alone, with rule 2's truth told; the other queue is left as it is.
use mathlib.Core.Path.{◌≡◌, refl, ap, subst, sym, ◌∙◌}
use mathlib.Core.Bool.{Bool, true, false, cond, false≢true}
use mathlib.Core.Logic.{◌≢◌}
use mathlib.Core.List.{List, [], ◌∷◌, ◌++◌, append-nil}
use Prim.Native.Nat.{ℕ, zero, suc, ◌+◌, ◌<◌}
use native.Mathlib.Omega.{arith}
use borrow.Author.Tests.{eq-eqb, eqb-false, ltb-false}
use lib.Dec.{ltb}
use lib.ListN.{get_or, length}
use Rattle.laws.proofs.Tests.{or-neither}
use Rattle.calls.specs.Packets.{Packet}
use Rattle.calls.specs.Requests.{Request, ask_arrival, ask_departure, ask_tick}
use Rattle.pie.specs.Constants.{latest, most_verdicts}
use Rattle.pie.specs.Verdicts.{admitted, total}
use Rattle.pie.specs.declared.Backlog.{Backlog}
use Rattle.pie.specs.declared.Verdict.{Verdict}
use Rattle.refusals.specs.Answer.{Answer, departed, refused, ticked, verdict}
use Rattle.refusals.proofs.Fitting.{head-fits, size-in-range}
use Rattle.refusals.proofs.Ordered.{none-refuses}
use Rattle.store.specs.Put.{ends_after_put, free_place, handles_after_put, sizes_after_put, store_after_put}
use Rattle.store.specs.Take.{store_after_take}
use Rattle.store_guarantees.specs.Chains.{packets_in}
use Rattle.store_guarantees.specs.Sound.{Sound}
use Rattle.pair_rules.specs.Answer.{Reply}
use Rattle.pair_rules.specs.Queues.{other, own, paired, storing}
use Rattle.pair_rules.specs.WellFormed.{well_formed}
use Rattle.pair_rules.specs.declared.Pair.{Pair}
use Rattle.pair_rules.specs.declared.Shared.{Shared}
use Rattle.pair_rules.specs.declared.State.{State}
use Rattle.pair_rules.specs.declared.Which.{Which}
use Rattle.pair_rules.specs.declared.Which.TheVariants.{Intercom, Passengers}
use Rattle.pair_rules.proofs.Facts.{QueueFits, facts}
use Rattle.pair_rules.proofs.Symmetry.{own-paired, shared-paired}
use Rattle.pair_rules.specs.Answer.{unless_refused}
use Rattle.pair_rules.specs.Arrival.{arrival, arrival_refusal, arrival_refusals, arrived_state, arrived_store, slots_full, verdict_of}
use Rattle.pair_rules.specs.Departure.{departed_state, departure, departure_refusal, departure_refusals, head_handle, head_size}
use Rattle.pair_rules.specs.Tick.{tick, tick_refusal, tick_refusals, ticked_state}
use Rattle.pair_rules.proofs.Kept.{arrived-fits, departed-fits, ticked-fits}
use Rattle.pair_rules.proofs.WhenAccepted.{admitted-room}
use Rattle.pair_guarantees.specs.Handed.{Queues, chain_number, chains_of, queued, reply_to, returned}
use Rattle.pair_guarantees.specs.Isolation.{without_ends}
use Rattle.pair_guarantees.proofs.Alone.{AloneReply, alone_acceptance, alone_number, alone_reply, alone_unless, head_taken, judged}
use Rattle.pair_guarantees.proofs.Chained.{head-taken, held-put, held-take, put-done, puts, still-chains, take_done, takes, the_other}
use Rattle.pair_guarantees.proofs.Chained.{with_packet, without_head}
use Rattle.pair_guarantees.proofs.Kept.{changed-formed, held-total, no_more, own-fits, room}
use Rattle.pair_guarantees.proofs.Whole.{Whole, arrival-number, departure-number, head_of, tick-number, unfit_of, view_of}

pub record Step (w : Which) (q q' : Queues) (a : Answer) (m : AloneReply) : Type 0 where
  pub answer : a ≡ m.answer
  pub view : view_of w q' ≡ m.view
  pub others : view_of (the_other w) q' ≡ view_of (the_other w) q
  pub formed : well_formed q'.pair ≡ true
  pub linked : unfit_of q' ≡ false → Sound (chains_of q')
  pub reserves : q'.pair.shared.reserves ≡ q.pair.shared.reserves

-- ── parts of a step ──

-- the views of a pair with another store and another state of the called queue
own_view : (w : Which) (q q' : Queues) (sh : Shared) (s : State) (ps : List Packet) (unfit : Bool) →
    q'.pair ≡ paired w sh s (other w q.pair) → queued w q' ≡ ps → unfit_of q' ≡ unfit →
    view_of w q' ≡ record { state = without_ends s; packets = ps; unfit = unfit }
own_view w q q' sh s ps unfit e packets fit = rw (fit, packets, e, own-paired w sh s (other w q.pair))

other-view : (w : Which) (q q' : Queues) (sh : Shared) (s : State) → q'.pair ≡ paired w sh s (other w q.pair) →
    queued (the_other w) q' ≡ queued (the_other w) q → unfit_of q' ≡ unfit_of q → view_of (the_other w) q' ≡ view_of (the_other w) q
other-view w q q' sh s e packets fit =
    let state : own (the_other w) q'.pair ≡ own (the_other w) q.pair = rw e (go w) in rw (fit, packets, state)
  where
    go : (w : Which) → own (the_other w) (paired w sh s (other w q.pair)) ≡ own (the_other w) q.pair
    go Intercom = refl
    go Passengers = refl

kept-reserves : (w : Which) (q q' : Queues) (sh : Shared) (s : State) → q'.pair ≡ paired w sh s (other w q.pair) →
    sh.reserves ≡ q.pair.shared.reserves → q'.pair.shared.reserves ≡ q.pair.shared.reserves
kept-reserves w q q' sh s e same = rw (e, shared-paired w sh s (other w q.pair)) same

pub sound-fits : (q : Queues) → Sound (chains_of q) → unfit_of q ≡ false
sound-fits q s =
    rw (
      eq-eqb (length q.handles) q.pair.shared.slots s.handles,
      eq-eqb (length q.sizes) q.pair.shared.slots s.sizes,
    )

-- ── a refused call ──

stays : (q : Queues) (w : Which) (r : Request) (n : ℕ) → returned q w r (record { answer = refused n; pair = q.pair }) ≡ q
stays q w (ask_arrival clock handle size ecn u) n = refl
stays q w (ask_departure clock) n = refl
stays q w (ask_tick clock) n = refl

refused-step : (w : Which) (q : Queues) (r : Request) (n : ℕ) → Whole q →
    Step w q (returned q w r (record { answer = refused n; pair = q.pair })) (refused n) (record { answer = refused n; view = view_of w q })
refused-step w q r n h =
    rw (stays q w r n)
    (record { answer = refl; view = refl; others = refl; formed = h.formed; linked = h.linked; reserves = refl })

-- ── a call that moves no packet ──

module _ (w : Which) (q : Queues) (h : Whole q) where
  abbrev p : Pair
  p = q.pair

  abbrev o : State
  o = own w p

  still-step : (s : State) (a : Answer) → s.ends ≡ o.ends → s.backlog ≡ o.backlog → QueueFits p.shared.slots s →
      Step w q (record { pair = paired w p.shared s (other w p); handles = q.handles; sizes = q.sizes }) a
      (record { answer = a; view = record { state = without_ends s; packets = queued w q; unfit = unfit_of q } })
  still-step s a ends backlog fits =
      let q' : Queues = record { pair = paired w p.shared s (other w p); handles = q.handles; sizes = q.sizes } in
      let f = facts p h.formed in
      let same : chains_of q' ≡ chains_of q = still-chains w q s ends backlog in
      let fit : unfit_of q' ≡ unfit_of q = rw (shared-paired w p.shared s (other w p)) in
      let count : s.backlog.count ≡ o.backlog.count = ap (λ (b : Backlog). b.count) backlog in
      record {
        answer = refl;
        view = own_view w q q' p.shared s (queued w q) (unfit_of q) refl (ap (λ c. packets_in c (chain_number w)) same) fit;
        others = other-view w q q' p.shared s refl (ap (λ c. packets_in c (chain_number (the_other w))) same) fit;
        formed =
            changed-formed w p p.shared.store s f fits f.shared.freed-high f.shared.used_high
            (omega (arith, held-total w p f))
            (no_more w p p.shared.store s f (omega arith));
        linked = λ fits'. rw same (h.linked (sym fit ∙ fits'));
        reserves = kept-reserves w q q' p.shared s refl refl;
      }

  -- ── an arrival ──

  module _ (clock handle size : ℕ) (ecn : Bool) (u : ℕ)
      (none : arrival_refusal q.pair w (length q.handles) q.sizes clock size ecn u ≡ 0) where
    abbrev v : Verdict
    v = verdict_of p w size ecn u

    abbrev place : ℕ
    place = free_place p.shared.store

    abbrev arrived : State
    arrived = arrived_state o clock size place v

    tests : (i : ℕ) → (get_or (arrival_refusals p w (length q.handles) q.sizes clock size ecn u) i (0, false)).1 ≡ false
    unfolding arrival_refusal
    tests = none-refuses (arrival_refusals p w (length q.handles) q.sizes clock size ecn u) refl none

    fits-arrived : (admitted v ≡ true → (o.backlog.count < p.shared.slots) × (place < p.shared.slots)) →
        QueueFits p.shared.slots arrived
    fits-arrived free =
        let k = own-fits w p (facts p h.formed) in
        let time = or-neither (ltb clock o.clock.0) (ltb latest clock) (tests 2) in
        let range = size-in-range size (tests 3) in
        let full : total o.verdicts ≢ most_verdicts = eqb-false _ _ (tests 4) in
        arrived-fits p w clock size place ecn u k (ltb-false _ _ time.0) (ltb-false _ _ time.1) range.0 range.1
        (omega (arith, k.total-high)) free

    abbrev grown : Bool → List Packet
    grown b = queued w q ++ cond b (record { handle = handle; size = size } ∷ []) []

    admitted-step : admitted v ≡ true →
        Step w q (with_packet w q arrived handle size) (verdict v) (judged (view_of w q) clock handle size v)
    unfolding arrived_state
    admitted-step a =
        let f = facts p h.formed in
        let range = size-in-range size (tests 3) in
        let rm = room w p f (admitted-room p w size ecn u a).1 in
        let d = put-done w q handle size (h.linked (tests 1)) (omega arith) rm.free in
        let fits = fits-arrived (λ t. (omega (arith, rm.free), d.place)) in
        let ends : arrived.ends ≡ ends_after_put o.ends o.backlog.count place = rw a in
        let count : arrived.backlog.count ≡ o.backlog.count + 1 = rw a in
        let done = puts w q arrived handle size ends count d in
        let q' = with_packet w q arrived handle size in
        let sh = storing p.shared (store_after_put p.shared.store q.sizes) in
        let fit = sound-fits q' done.sound in
        record {
          answer = refl;
          view = own_view w q q' sh arrived _ _ refl (done.contents.mine ∙ ap grown (sym a)) (fit ∙ sym (tests 1));
          others = other-view w q q' sh arrived refl done.contents.others (fit ∙ sym (tests 1));
          formed =
              changed-formed w p sh.store arrived f fits d.sound.freed d.sound.used
              (omega (arith, d.sound.counted, held-put w q handle size, count))
              (rm.common sh.store arrived count);
          linked = λ t. done.sound;
          reserves = kept-reserves w q q' sh arrived refl refl;
        }

    dropped_step : admitted v ≡ false →
        Step w q (record { pair = paired w p.shared arrived (other w p); handles = q.handles; sizes = q.sizes }) (verdict v)
        (judged (view_of w q) clock handle size v)
    unfolding arrived_state
    dropped_step a =
        let t = still-step arrived (verdict v) (rw a) (rw a) (fits-arrived (λ b. absurd (false≢true (sym a ∙ b)))) in
        let view' : judged (view_of w q) clock handle size v
        ≡ record { answer = verdict v; view = record { state = without_ends arrived; packets = queued w q; unfit = unfit_of q } }
        = rw (a, append-nil (queued w q)) in
        rw view' t

    -- the tables as the arrival leaves them
    arrival-step : Step w q
        (returned q w (ask_arrival clock handle size ecn u)
        (record {
          answer = verdict v;
          pair = paired w (storing p.shared (arrived_store p.shared.store q.sizes v)) arrived (other w p);
        }))
        (verdict v) (judged (view_of w q) clock handle size v)
    unfolding arrived_store
    arrival-step = go (admitted v) refl
      where
        after : Bool → Queues
        after b =
            record {
              pair =
                  paired w (storing p.shared (cond b (store_after_put p.shared.store q.sizes) p.shared.store))
                  arrived (other w p);
              handles = cond b (handles_after_put q.handles place handle) q.handles;
              sizes = cond b (sizes_after_put o.ends o.backlog.count q.sizes place size) q.sizes;
            }

        go : (b : Bool) → admitted v ≡ b → Step w q (after (admitted v)) (verdict v) (judged (view_of w q) clock handle size v)
        go true a = subst (λ (b : Bool). Step w q (after b) (verdict v) (judged (view_of w q) clock handle size v)) (sym a) (admitted-step a)
        go false a = subst (λ (b : Bool). Step w q (after b) (verdict v) (judged (view_of w q) clock handle size v)) (sym a) (dropped_step a)

  -- ── a departure ──

  module _ (clock : ℕ) (none : departure_refusal q.pair w (length q.handles) q.sizes clock ≡ 0) where
    abbrev size : ℕ
    size = head_size o q.sizes

    abbrev gone : State
    gone = departed_state o q.sizes clock size

    left : (i : ℕ) → (get_or (departure_refusals p w (length q.handles) q.sizes clock) i (0, false)).1 ≡ false
    unfolding departure_refusal
    left = none-refuses (departure_refusals p w (length q.handles) q.sizes clock) refl none

    departure-step : Step w q
        (returned q w (ask_departure clock)
        (record {
          answer = departed (head_handle o q.handles) size;
          pair = paired w (storing p.shared (store_after_take p.shared.store o.ends.head)) gone (other w p);
        }))
        (departed (head_handle o q.handles) size) (head_taken (view_of w q) clock (queued w q))
    unfolding departed_state
    departure-step =
        let f = facts p h.formed in
        let k = own-fits w p f in
        let time = or-neither (ltb clock o.clock.0) (ltb latest clock) (left 2) in
        let some : o.backlog.count ≢ 0 = eqb-false _ _ (left 3) in
        let head = head_of w q h (left 1) some in
        let d = take_done w q head.packet head.rest (h.linked (left 1)) head.split in
        let done = takes w q gone head.packet head.rest refl refl d in
        let next : gone.ends.head < p.shared.slots =
        subst (λ n. n < p.shared.slots) (head-taken w q) (d.sound.heads (chain_number w)) in
        let leaves = head-fits o.backlog size (rw head.size head.leaves) in
        let fits =
        departed-fits p.shared.slots o q.sizes clock size f.shared.slots-low f.shared.slots-high k
        (ltb-false _ _ time.0) (ltb-false _ _ time.1) (omega arith) leaves next in
        let q' = without_head w q gone in
        let sh = storing p.shared (store_after_take p.shared.store o.ends.head) in
        let fit = sound-fits q' done.sound in
        let m : AloneReply = head_taken (view_of w q) clock (head.packet ∷ head.rest) in
        subst (λ ps. Step w q q' (departed (head_handle o q.handles) size) (head_taken (view_of w q) clock ps)) (sym head.split)
        (record {
          answer = rw (head.handle, head.size);
          view =
              own_view w q q' sh gone head.rest (unfit_of q) refl done.contents.mine (fit ∙ sym (left 1)) ∙ rw head.size;
          others = other-view w q q' sh gone refl done.contents.others (fit ∙ sym (left 1));
          formed =
              changed-formed w p sh.store gone f fits k.head-high d.sound.used
              (omega (arith, d.sound.counted, held-take w q))
              (no_more w p sh.store gone f (omega arith));
          linked = λ t. done.sound;
          reserves = kept-reserves w q q' sh gone refl refl;
        })

  -- ── a tick ──

  tick-step : (clock : ℕ) → tick_refusal q.pair w clock ≡ 0 →
      Step w q (record { pair = paired w p.shared (ticked_state o clock) (other w p); handles = q.handles; sizes = q.sizes }) ticked
      (alone_acceptance (view_of w q) (slots_full p w) (ask_tick clock))
  unfolding ticked_state tick_refusal
  tick-step clock none =
      let f = facts p h.formed in
      let at = none-refuses (tick_refusals p w clock) refl none in
      let time = or-neither (ltb clock o.clock.0) (ltb latest clock) (at 1) in
      still-step (ticked_state o clock) ticked refl refl
      (ticked-fits p.shared.slots o clock f.shared.slots-low f.shared.slots-high (own-fits w p f)
      (ltb-false _ _ time.0) (ltb-false _ _ time.1) (ltb-false _ _ (at 2)))

-- ── any call ──

abbrev pub number_given : Queues → Which → Request → ℕ
number_given q w (ask_arrival clock handle size ecn u) = arrival_refusal q.pair w (length q.handles) q.sizes clock size ecn u
number_given q w (ask_departure clock) = departure_refusal q.pair w (length q.handles) q.sizes clock
number_given q w (ask_tick clock) = tick_refusal q.pair w clock

abbrev acceptance : Queues → Which → Request → Reply
acceptance q w (ask_arrival clock handle size ecn u) =
    let p = q.pair in
    let v = verdict_of p w size ecn u in
    record {
      answer = verdict v;
      pair =
          paired w (storing p.shared (arrived_store p.shared.store q.sizes v))
          (arrived_state (own w p) clock size (free_place p.shared.store) v) (other w p);
    }
acceptance q w (ask_departure clock) =
    let p = q.pair in
    let s = own w p in
    record {
      answer = departed (head_handle s q.handles) (head_size s q.sizes);
      pair =
          paired w (storing p.shared (store_after_take p.shared.store s.ends.head))
          (departed_state s q.sizes clock (head_size s q.sizes)) (other w p);
    }
acceptance q w (ask_tick clock) =
    let p = q.pair in record { answer = ticked; pair = paired w p.shared (ticked_state (own w p) clock) (other w p) }

reply-is : (q : Queues) (w : Which) (r : Request) → reply_to q w r ≡ unless_refused (number_given q w r) q.pair (acceptance q w r)
unfolding arrival departure tick
reply-is q w (ask_arrival clock handle size ecn u) = refl
reply-is q w (ask_departure clock) = refl
reply-is q w (ask_tick clock) = refl

pub same_number : (w : Which) (q : Queues) (r : Request) → Whole q → number_given q w r ≡ alone_number (view_of w q) r
same_number w q (ask_arrival clock handle size ecn u) h = arrival-number w q clock handle size ecn u h
same_number w q (ask_departure clock) h = departure-number w q clock h
same_number w q (ask_tick clock) h = tick-number w q clock h

accepted-step : (w : Which) (q : Queues) (r : Request) → Whole q → number_given q w r ≡ 0 →
    Step w q (returned q w r (acceptance q w r)) (acceptance q w r).answer (alone_acceptance (view_of w q) (slots_full q.pair w) r)
unfolding verdict_of
accepted-step w q (ask_arrival clock handle size ecn u) h none = arrival-step w q h clock handle size ecn u none
accepted-step w q (ask_departure clock) h none = departure-step w q h clock none
accepted-step w q (ask_tick clock) h none = tick-step w q h clock none

-- the reply, of the pair and of the queue alone, by the number
StepOf : Which → Queues → Request → Reply → AloneReply → Type 0
StepOf w q r reply m = Step w q (returned q w r reply) reply.answer m

pub steps : (w : Which) (q : Queues) (r : Request) → Whole q →
    Step w q (returned q w r (reply_to q w r)) (reply_to q w r).answer (alone_reply (view_of w q) (slots_full q.pair w) r)
unfolding StepOf
steps w q r h = subst (λ x. StepOf w q r x m) (sym (reply-is q w r)) (subst by_number (same_number w q r h) (go (number_given q w r) refl))
  where
    m : AloneReply
    m = alone_reply (view_of w q) (slots_full q.pair w) r

    by_number : ℕ → Type 0
    by_number n =
        StepOf w q r (unless_refused (number_given q w r) q.pair (acceptance q w r))
        (alone_unless n (view_of w q) (alone_acceptance (view_of w q) (slots_full q.pair w) r))

    go : (n : ℕ) → number_given q w r ≡ n → by_number (number_given q w r)
    go zero e = rw e (accepted-step w q r h e)
    go (suc n) e = rw e (refused-step w q r (suc n) h)
