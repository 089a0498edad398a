-- As the ring: both are answered as the queue alone answers the same calls.
use mathlib.Core.Path.{◌≡◌, refl, ap, subst, sym, ◌∙◌}
use mathlib.Core.Bool.{false, true}
use mathlib.Core.List.{List, [], ◌∷◌, ◌++◌, append_assoc, append-nil, foldl}
use Prim.Native.Nat.{ℕ, ◌≤◌, ◌<◌}
use native.Mathlib.Omega.{arith}
use borrow.Author.Tests.{eq-eqb, le-leb, ne_eqb}
use lib.Dec.{eqb}
use lib.ListN.{length}
use Rattle.ring.specs.Calls.{Queue, after, answer_of}
use Rattle.ring_guarantees.specs.Handed.{Run, begin, step}
use Rattle.calls.specs.Requests.{Request}
use Rattle.refusals.specs.Answer.{made}
use Rattle.ring.specs.Fresh.{fresh}
use Rattle.ring.specs.Refusals.{settings_refused}
use Rattle.ring.specs.State.{well_formed}
use Rattle.ring.proofs.Kept.{fresh-well-formed}
use Rattle.pie.specs.Constants.{full_allowance, latest}
use Rattle.pair_rules.specs.Fresh.{empty_state}
use Rattle.pair_rules.specs.declared.Setup.{Setup}
use Rattle.pair_rules.specs.declared.Which.{Which}
use Rattle.pair_rules.specs.declared.Which.TheVariants.{Intercom, Passengers}
use Rattle.pair_guarantees.specs.AsRing.{AsRing, common, ring_settings}
use Rattle.pair_guarantees.specs.Isolation.{is_arrival, own_calls}
use Rattle.pair_guarantees.specs.Isolation as two
use Rattle.pair_guarantees.proofs.Alone.{View, alone_reply}
use Rattle.pair_guarantees.proofs.Following.{BelowAlone, alone_after, alone_answers, below-alone, follows, room-told}
use Rattle.pair_guarantees.proofs.Isolation.{begin-reserve, begin-view, begin-whole}
use Rattle.pair_guarantees.proofs.RingAlone.{Ring, RingStep, RingWhole, queue_of, ring-steps, ring_view}
use Rattle.pair_guarantees.proofs.Starting.{fits}
use Rattle.pair_guarantees.proofs.Whole.{view_of}

-- ── lists of calls of the ring ──

record Follows (r : Run) (requests : List Request) (v : View) : Type 0 where
  answers : (foldl step r requests).answers ≡ r.answers ++ alone_answers v requests
  state : common (foldl step r requests).queue.state ≡ (alone_after v requests).state

-- below its slots, rule 2 does not hold
told : (x : Ring) (r : Request) → RingWhole x → (is_arrival r ≡ true → x.state.backlog.count < x.slots) →
    RingStep x r (alone_reply (ring_view x) false r)
told x r h below =
    subst (RingStep x r)
    (room-told (ring_view x) (eqb x.state.backlog.count x.slots) r
    (λ a. let b = below a in ne_eqb x.state.backlog.count x.slots (λ e. omega arith)))
    (ring-steps x r h)

ring-follows : (x : Ring) (run : Run) (requests : List Request) → RingWhole x → run.queue ≡ queue_of x →
    BelowAlone x.slots (ring_view x) requests → Follows run requests (ring_view x)
ring-follows x run [] h e below =
    record { answers = sym (append-nil run.answers); state = ap (λ (q : Queue). common q.state) e }
ring-follows x run (r ∷ requests) h e below =
    let s = told x r h below.0 in
    let queue : (step run r).queue ≡ queue_of s.next = ap (λ q. after q r) e ∙ s.is in
    let b : BelowAlone s.next.slots (ring_view s.next) requests =
    subst (λ n. BelowAlone n (ring_view s.next) requests) (sym s.slots)
    (subst (λ v. BelowAlone x.slots v requests) (sym s.view) below.1) in
    let f = ring-follows s.next (step run r) requests s.whole queue b in
    let answer : answer_of run.queue r ≡ (alone_reply (ring_view x) false r).answer = ap (λ q. answer_of q r) e ∙ s.answer in
    record {
      answers =
          f.answers
          ∙ ap (λ v. (run.answers ++ answer_of run.queue r ∷ []) ++ alone_answers v requests) s.view
          ∙ append_assoc run.answers (answer_of run.queue r ∷ []) (alone_answers (alone_reply (ring_view x) false r).view requests)
          ∙ ap (λ a. run.answers ++ a ∷ alone_answers (alone_reply (ring_view x) false r).view requests) answer;
      state = f.state ∙ ap (λ v. (alone_after v requests).state) s.view;
    }

-- ── a fresh ring queue ──

record SettingsFit (s : Setup) : Type 0 where
  target-low : 1000 ≤ s.settings.target.0
  target-high : s.settings.target.0 ≤ 100000
  buffer-low : 1 ≤ s.settings.buffer.0
  buffer-high : s.settings.buffer.0 ≤ 16777216
  clock-high : s.clock.0 ≤ latest

module _ (mine : Setup) (handles sizes : List ℕ) (fit : SettingsFit mine) (low : 1 ≤ mine.reserve) (high : mine.reserve ≤ 65536)
    (lh : length handles ≡ mine.reserve) (lz : length sizes ≡ mine.reserve) where
  abbrev ring : Ring
  ring =
      record {
        state = empty_state mine.settings mine.clock.0 full_allowance;
        slots = mine.reserve;
        first = 0;
        handles = handles;
        sizes = sizes;
      }

  ring-accepted : settings_refused (ring_settings mine) mine.clock.0 ≡ false
  ring-accepted =
      simp (
        le-leb _ _ fit.target-low,
        le-leb _ _ fit.target-high,
        le-leb _ _ fit.buffer-low,
        le-leb _ _ fit.buffer-high,
        le-leb _ _ low,
        le-leb _ _ high,
        le-leb _ _ fit.clock-high,
      )

  ring-begins : (begin (ring_settings mine) mine.clock.0 handles sizes).queue ≡ queue_of ring
  unfolding fresh
  ring-begins = rw ring-accepted

  ring-made : (fresh (ring_settings mine) mine.clock.0).answer ≡ made
  unfolding fresh
  ring-made = rw ring-accepted

  ring-whole : RingWhole ring
  ring-whole =
      record {
        formed =
            subst (λ (q : Queue). well_formed q.state ≡ true) ring-begins
            (fresh-well-formed (ring_settings mine) mine.clock.0 ring-made);
        held = record { bytes = refl; sized = tt; five = refl };
      }

-- ── the claim ──

setup-fits : (w : Which) (slots : ℕ) (mine others : Setup) → (two.fresh_for w slots mine others).answer ≡ made →
    SettingsFit mine × (mine.reserve ≤ 65536)
setup-fits Intercom slots mine others e =
    let f = fits slots mine others e in (
      record {
        target-low = f.target-low;
        target-high = f.target-high;
        buffer-low = f.buffer-low;
        buffer-high = f.buffer-high;
        clock-high = f.clock-high;
      },
      omega (arith, f.reserves-high, f.slots-high),
    )
setup-fits Passengers slots mine others e =
    let f = fits slots others mine e in (
      record {
        target-low = f.other-target-low;
        target-high = f.other-target-high;
        buffer-low = f.other-buffer-low;
        buffer-high = f.other-buffer-high;
        clock-high = f.other-clock-high;
      },
      omega (arith, f.reserves-high, f.slots-high),
    )

pub as-ring : AsRing
as-ring w slots mine others handles sizes ring_handles ring_sizes calls e lh lz low rh rz below =
    let q = two.begin w slots mine others handles sizes in
    let n = mine.reserve in
    let fit = setup-fits w slots mine others e in
    let h = begin-whole slots mine others handles sizes w e in
    let reserve = begin-reserve slots mine others handles sizes w e in
    let x = ring mine ring_handles ring_sizes fit.0 low fit.1 rh rz in
    let views : view_of w q ≡ ring_view x =
    begin-view slots mine others handles sizes w e
    ∙ (rw (eq-eqb _ _ lh, eq-eqb _ _ lz, eq-eqb _ _ rh, eq-eqb _ _ rz)) in
    let b : BelowAlone n (view_of w q) (own_calls w calls) = below-alone w n q calls h reserve below in
    let f = follows w n q calls h reserve b in
    let g = ring-follows x _ (own_calls w calls) (ring-whole mine ring_handles ring_sizes fit.0 low fit.1 rh rz)
    (ring-begins mine ring_handles ring_sizes fit.0 low fit.1 rh rz)
    (subst (λ v. BelowAlone n v (own_calls w calls)) views b) in
    record {
      answers = f.answers ∙ ap (λ v. alone_answers v (own_calls w calls)) views ∙ sym g.answers;
      state = ap (λ (v : View). v.state) (f.view ∙ ap (λ v. alone_after v (own_calls w calls)) views) ∙ sym g.state;
    }
