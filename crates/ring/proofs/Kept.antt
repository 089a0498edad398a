-- Every accepted call returns a well-formed state where it is given one, and a fresh state is well formed.
use mathlib.Core.Path.{◌≡◌, refl}
use mathlib.Core.Bool.{Bool, true, false, cond, not, ◌&&◌, ◌||◌, and-false}
use Prim.Native.Nat.{ℕ, ◌+◌, ◌-◌, ◌*◌, ◌≤◌, ◌<◌}
use native.Mathlib.Nat.{mod-lt}
use native.Mathlib.Omega.{arith}
use lib.Dec.{eqb, leb, ltb}
use lib.ListN.{get_or}
use borrow.Author.Tests.{eqb-true, leb-false, leb-true, ne_eqb, not-false}
use Rattle.laws.proofs.Choice.{at-cond, either}
use Rattle.laws.proofs.Tests.{and_left, and_right}
use Rattle.units.specs.Kinds.{whole}
use Rattle.units.specs.declared.Prob.{Prob}
use Rattle.pie.specs.Constants.{full_allowance, largest, latest, longest, most_accumulated, most_verdicts, threshold}
use Rattle.pie.specs.DepartureRate.{counting, rate_after, resting, running, sample_of, starting}
use Rattle.pie.specs.DropDecision.{accumulated_after}
use Rattle.pie.specs.Start.{restarted}
use Rattle.pie.specs.Update.{delay_of, next_prob, refills, updated}
use Rattle.pie.specs.Verdicts.{admitted, total}
use Rattle.pie.specs.declared.Backlog.{Backlog}
use Rattle.pie.specs.declared.Pie.{Pie}
use Rattle.pie.specs.declared.Rate.{Rate}
use Rattle.pie.specs.declared.Verdict.{Verdict}
use Rattle.pie.specs.declared.Verdict.TheVariants.{DroppedBytes, DroppedSlots}
use Rattle.pie.proofs.Counts.{total-raised}
use Rattle.pie.proofs.Ranges.{accumulated-lt, average-le, delay-le, next-allowance-le, next-prob-le, sample-le}
use Rattle.ring.specs.Activity.{above_third, begun, is_calm, turns_active, turns_inactive}
use Rattle.ring.specs.Answer.{Reply}
use Rattle.refusals.specs.Answer.{made}
use Rattle.ring.specs.Arrival.{arrived_pie, arrived_state, bytes_full, slots_full, verdict_of}
use Rattle.ring.specs.Departure.{departed_state}
use Rattle.ring.specs.Fresh.{fresh, fresh_state}
use Rattle.ring.specs.Refusals.{settings_refused}
use Rattle.laws.specs.Tests.{all}
use Rattle.laws.proofs.TestLists.{all-at}
use Rattle.ring.specs.State.{settings_conditions, well_formed}
use Rattle.ring.specs.Tick.{ticked_pie, ticked_state}
use Rattle.ring.specs.declared.Settings.{Settings}
use Rattle.ring.specs.declared.State.{State}
use Rattle.ring.proofs.Admitted.{admitted-room}
use Rattle.ring.proofs.Facts.{Facts, well-formed}
use Rattle.ring.proofs.WhenAccepted.{ArrivalAccepted, DepartureAccepted, TickAccepted}

-- ── the facts of a state, part by part ──

record SettingsFit (s : Settings) : Type 0 where
  target-low : 1000 ≤ s.target.0
  target-high : s.target.0 ≤ 100000
  buffer-low : 1 ≤ s.buffer.0
  buffer-high : s.buffer.0 ≤ 16777216
  slots-low : 1 ≤ s.slots
  slots-high : s.slots ≤ 65536
  profile-high : s.profile ≤ 1

record PieFits (pie : Pie) : Type 0 where
  prob-high : pie.prob.0 ≤ whole
  old-high : pie.old.0 ≤ longest
  allowance-high : pie.allowance.0 ≤ full_allowance
  accumulated-high : pie.accumulated.0 < most_accumulated

record RateFits (clock : ℕ) (r : Rate) : Type 0 where
  average-high : r.average.0 ≤ longest
  start-high : r.start.0 ≤ clock
  counted-high : r.counted.0 < threshold
  idle-start : r.measuring || eqb r.start.0 0 ≡ true
  idle-counted : r.measuring || eqb r.counted.0 0 ≡ true

record BacklogFits (s : Settings) (b : Backlog) : Type 0 where
  count-high : b.count ≤ s.slots
  bytes_low : b.count ≤ b.bytes.0
  bytes_high : b.bytes.0 ≤ largest * b.count
  bytes_fit : b.bytes.0 ≤ s.buffer.0

-- no measurement runs on an empty queue
abbrev Busy : Rate → Backlog → Type 0
Busy r b = not (r.measuring && eqb b.count 0) ≡ true

-- an inactive queue is calm and its probability is 0
abbrev InactiveCalm : (active calm : Bool) → Pie → Type 0
InactiveCalm active calm pie = active || (calm && eqb pie.prob.0 0) ≡ true

record Fits (s : State) : Type 0 where
  settings : SettingsFit s.settings
  last-high : s.last.0 ≤ s.clock.0
  clock-high : s.clock.0 ≤ latest
  pie : PieFits s.pie
  rate : RateFits s.clock.0 s.pie.rate
  backlog : BacklogFits s.settings s.backlog
  busy : Busy s.pie.rate s.backlog
  first-high : s.first < s.settings.slots
  total-high : total s.verdicts ≤ most_verdicts
  inactive-calm : InactiveCalm s.active (is_calm s.settings) s.pie

fits : (s : State) → Facts s → Fits s
fits s f = search

fits-well-formed : (s : State) → Fits s → well_formed s ≡ true
fits-well-formed s f = well-formed s (search)

-- a clock that is no earlier
later-fits : (clock later : ℕ) (r : Rate) → clock ≤ later → RateFits clock r → RateFits later r
later-fits clock later r h f =
    record {
      average-high = f.average-high;
      start-high = omega arith;
      counted-high = f.counted-high;
      idle-start = f.idle-start;
      idle-counted = f.idle-counted;
    }

-- no measurement runs
rest-fits : (average clock : ℕ) → average ≤ longest → RateFits clock (resting average)
rest-fits average clock h =
    record { average-high = h; start-high = omega arith; counted-high = omega arith; idle-start = refl; idle-counted = refl }

-- ── an arrival ──

entered-busy : (r : Rate) (count : ℕ) → not (r.measuring && eqb (count + 1) 0) ≡ true
entered-busy r count = rw (ne_eqb (count + 1) 0 (λ e. omega arith), and-false)

-- the rules begin in a state that fits as well
begun-calm : (active third calm : Bool) (pie : Pie) → InactiveCalm active calm pie →
    let turns = not active && third in InactiveCalm (active || turns) calm (cond turns restarted pie)
begun-calm true third calm pie h = refl
begun-calm false true calm pie h = refl
begun-calm false false calm pie h = h

begun-fits : (s : State) → Fits s → Fits (begun s)
unfolding begun
begun-fits s f =
    let turns = turns_active s in
    record {
      settings = f.settings;
      last-high = f.last-high;
      clock-high = f.clock-high;
      pie = at-cond PieFits turns (λ e. omega arith) (λ e. f.pie);
      rate = at-cond (λ (p : Pie). RateFits s.clock.0 p.rate) turns (λ e. rest-fits 0 s.clock.0 (omega arith)) (λ e. f.rate);
      backlog = f.backlog;
      busy = at-cond (λ (p : Pie). Busy p.rate s.backlog) turns (λ e. refl) (λ e. f.busy);
      first-high = f.first-high;
      total-high = f.total-high;
      inactive-calm = begun-calm s.active (above_third s) (is_calm s.settings) s.pie f.inactive-calm;
    }

-- rules 1 and 2 leave what is accumulated, as an inactive queue does, and rules 3 to 7 keep it in range
accumulated-fits : (s : State) (size : ℕ) (ecn : Bool) (u : ℕ) → s.pie.accumulated.0 < most_accumulated →
    (arrived_pie s (verdict_of s size ecn u)).accumulated.0 < most_accumulated
unfolding verdict_of accumulated_after
accumulated-fits s size ecn u h =
    either P (bytes_full s size) DroppedBytes _ (stays DroppedBytes refl)
    (either P (slots_full s) DroppedSlots _ (stays DroppedSlots refl)
    (at-cond P s.active (λ e. rw e (accumulated-lt s.pie target bytes ecn u h)) (λ e. rw e h)))
  where
    target : ℕ
    target = s.settings.target.0

    bytes : ℕ
    bytes = s.backlog.bytes.0

    P : Verdict → Type 0
    P v = (arrived_pie s v).accumulated.0 < most_accumulated

    stays : (v : Verdict) → accumulated_after s.pie target bytes v ≡ s.pie.accumulated.0 → P v
    stays v e = at-cond (λ (m : Prob). m.0 < most_accumulated) s.active (λ t. rw e h) (λ t. h)

arrived-fits : (s : State) (clock size : ℕ) (ecn : Bool) (u : ℕ) → Fits s → s.clock.0 ≤ clock → clock ≤ latest →
    1 ≤ size → size ≤ largest → total s.verdicts < most_verdicts → Fits (arrived_state s clock size (verdict_of s size ecn u))
unfolding arrived_state
arrived-fits s clock size ecn u f clock-low clock-high size_low size-high total-low =
    let v = verdict_of s size ecn u in
    record {
      settings = f.settings;
      last-high = omega arith;
      clock-high = clock-high;
      pie =
          record {
            prob-high = f.pie.prob-high;
            old-high = f.pie.old-high;
            allowance-high = f.pie.allowance-high;
            accumulated-high = accumulated-fits s size ecn u f.pie.accumulated-high;
          };
      rate = later-fits s.clock.0 clock s.pie.rate clock-low f.rate;
      backlog =
          at-cond (BacklogFits s.settings) (admitted v)
          (λ e. let room = admitted-room s size ecn u f.backlog.count-high e in omega arith)
          (λ e. f.backlog);
      busy = at-cond (Busy s.pie.rate) (admitted v) (λ e. entered-busy s.pie.rate s.backlog.count) (λ e. f.busy);
      first-high = f.first-high;
      total-high = omega (arith, total-raised s.verdicts v);
      inactive-calm = f.inactive-calm;
    }

pub arrived-well-formed : (s : State) (handles_length sizes_length clock size : ℕ) (ecn : Bool) (u : ℕ) →
    ArrivalAccepted s handles_length sizes_length clock size →
    well_formed (arrived_state (begun s) clock size (verdict_of (begun s) size ecn u)) ≡ true
unfolding begun
arrived-well-formed s handles_length sizes_length clock size ecn u a =
    fits-well-formed (arrived_state (begun s) clock size (verdict_of (begun s) size ecn u))
    (arrived-fits (begun s) clock size ecn u (begun-fits s (fits s a.known))
    a.clock-low
    a.clock-high
    a.size_low
    a.size-high
    a.total-low)

-- ── a departure ──

run_fits : (average start counted clock : ℕ) → average ≤ longest → start ≤ clock → counted < threshold → RateFits clock (running average start counted)
run_fits average start counted clock h k l =
    record { average-high = h; start-high = k; counted-high = l; idle-start = refl; idle-counted = refl }

counting-fits : (r : Rate) (clock size count_left : ℕ) → RateFits clock r → RateFits clock (counting r clock size count_left)
counting-fits r clock size count_left f =
    at-cond (RateFits clock) (leb threshold (r.counted.0 + size))
    (λ e. rest-fits _ clock (average-le r.average.0 (sample_of clock r.start.0) f.average-high (sample-le clock r.start.0)))
    (λ e.
    at-cond (RateFits clock) (eqb count_left 0)
    (λ none. rest-fits r.average.0 clock f.average-high)
    (λ some. run_fits r.average.0 r.start.0 _ clock f.average-high f.start-high (leb-false _ _ e)))

starting-fits : (r : Rate) (clock bytes_left : ℕ) → RateFits clock r → RateFits clock (starting r clock bytes_left)
starting-fits r clock bytes_left f =
    at-cond (RateFits clock) r.measuring
    (λ e. f)
    (λ e. at-cond (RateFits clock) (leb threshold bytes_left) (λ e. run_fits r.average.0 clock 0 clock f.average-high (omega arith) (omega arith)) (λ e. f))

rate-after-fits : (r : Rate) (clock size count_left bytes_left : ℕ) → RateFits clock r →
    RateFits clock (rate_after r clock size count_left bytes_left)
unfolding rate_after
rate-after-fits r clock size count_left bytes_left f =
    starting-fits (cond r.measuring (counting r clock size count_left) r) clock bytes_left
    (at-cond (RateFits clock) r.measuring (λ e. counting-fits r clock size count_left f) (λ e. f))

abbrev Rests : Rate → Type 0
Rests r = r.measuring ≡ false

given-up : (r : Rate) (clock size count_left : ℕ) → eqb count_left 0 ≡ true → Rests (cond r.measuring (counting r clock size count_left) r)
given-up r clock size count_left none =
    at-cond Rests r.measuring
    (λ runs. at-cond Rests (leb threshold (r.counted.0 + size)) (λ ends. refl) (λ goes_on. rw none))
    (λ rests. rests)

none-starts : (r : Rate) (clock bytes_left : ℕ) → Rests r → bytes_left < threshold → Rests (starting r clock bytes_left)
none-starts r clock bytes_left rests h =
    at-cond Rests r.measuring
    (λ runs. rests)
    (λ rests. at-cond Rests (leb threshold bytes_left) (λ e. absurd (omega (arith, leb-true threshold bytes_left e))) (λ e. rests))

-- where no packets are left, none runs
rate-after-busy : (r : Rate) (clock size count_left bytes_left : ℕ) → bytes_left ≤ largest * count_left →
    not ((rate_after r clock size count_left bytes_left).measuring && eqb count_left 0) ≡ true
unfolding rate_after
rate-after-busy r clock size count_left bytes_left h = go (eqb count_left 0) refl
  where
    go : (b : Bool) → eqb count_left 0 ≡ b → not ((rate_after r clock size count_left bytes_left).measuring && b) ≡ true
    go true e =
        let none : count_left ≡ 0 = eqb-true count_left 0 e in
        let counted = cond r.measuring (counting r clock size count_left) r in
        rw (none-starts counted clock bytes_left (given-up r clock size count_left e) (omega arith))
    go false e = rw and-false

pub departed-well-formed : (s : State) (handles_length sizes_length clock head_size : ℕ) →
    DepartureAccepted s handles_length sizes_length clock head_size → well_formed (departed_state s clock head_size) ≡ true
unfolding departed_state
departed-well-formed s handles_length sizes_length clock head_size a =
    let f = fits s a.known in
    fits-well-formed (departed_state s clock head_size) (record {
      settings = f.settings;
      last-high = omega arith;
      clock-high = a.clock-high;
      pie = omega arith;
      rate =
          rate-after-fits s.pie.rate clock head_size (s.backlog.count - 1) (s.backlog.bytes.0 - head_size)
          (later-fits s.clock.0 clock s.pie.rate a.clock-low f.rate);
      backlog = omega arith;
      busy = rate-after-busy s.pie.rate clock head_size (s.backlog.count - 1) (s.backlog.bytes.0 - head_size) (omega arith);
      first-high = mod-lt (s.first + 1) f.settings.slots-low;
      total-high = f.total-high;
      inactive-calm = f.inactive-calm;
    })

-- ── a tick ──

-- a tick that turns a queue inactive leaves it calm with probability 0
ticked-calm : (active turns calm : Bool) (after pie : Pie) → (turns ≡ true → calm && eqb after.prob.0 0 ≡ true) →
    InactiveCalm active calm pie → InactiveCalm (active && not turns) calm (cond active after pie)
ticked-calm true true calm after pie t h = t refl
ticked-calm true false calm after pie t h = refl
ticked-calm false turns calm after pie t h = h

turned-calm : (s : State) (after : Pie) → turns_inactive s after ≡ true → is_calm s.settings && eqb after.prob.0 0 ≡ true
turned-calm s after e =
    let calm = is_calm s.settings in
    let quiet = refills after.prob.0 after.old.0 s.pie.old.0 s.settings.target.0 in
    let none = eqb after.prob.0 0 in
    let low = ltb (2 * after.old.0) s.settings.target.0 in
    let was-low = ltb (2 * s.pie.old.0) s.settings.target.0 in
    let both = and_left (calm && quiet) (not (above_third s)) e in
    rw (and_left calm quiet both) (and_left none low (and_left (none && low) was-low (and_right calm quiet both)))

updated-fits : (pie : Pie) (calm : Bool) (target bytes : ℕ) → PieFits pie → PieFits (updated pie calm target bytes)
unfolding updated
updated-fits pie calm target bytes f =
    let old = pie.old.0 in
    let delay = delay_of bytes pie.rate.average.0 in
    let p = next_prob calm pie.prob.0 delay old target in
    record {
      prob-high = next-prob-le calm pie.prob.0 delay old target;
      old-high = delay-le bytes pie.rate.average.0;
      allowance-high = next-allowance-le pie.allowance.0 p delay old target f.allowance-high;
      accumulated-high = f.accumulated-high;
    }

updated-rate : (P : Rate → Type 0) (pie : Pie) (calm : Bool) (target bytes : ℕ) → P pie.rate → P (updated pie calm target bytes).rate
unfolding updated
updated-rate P pie calm target bytes h = h

pub ticked-well-formed : (s : State) (clock : ℕ) → TickAccepted s clock → well_formed (ticked_state s clock) ≡ true
unfolding ticked_state
ticked-well-formed s clock a =
    let f = fits s a.known in
    let calm = is_calm s.settings in
    let target = s.settings.target.0 in
    let bytes = s.backlog.bytes.0 in
    let rate = later-fits s.clock.0 clock s.pie.rate a.clock-low f.rate in
    fits-well-formed (ticked_state s clock) (record {
      settings = f.settings;
      last-high = omega arith;
      clock-high = a.clock-high;
      pie = at-cond PieFits s.active (λ e. updated-fits s.pie calm target bytes f.pie) (λ e. f.pie);
      rate =
          at-cond (λ (p : Pie). RateFits clock p.rate) s.active
          (λ e. updated-rate (RateFits clock) s.pie calm target bytes rate)
          (λ e. rate);
      backlog = f.backlog;
      busy =
          at-cond (λ (p : Pie). Busy p.rate s.backlog) s.active
          (λ e. updated-rate (λ r. Busy r s.backlog) s.pie calm target bytes f.busy)
          (λ e. f.busy);
      first-high = f.first-high;
      total-high = f.total-high;
      inactive-calm =
          let next = ticked_pie s in
          ticked-calm s.active (turns_inactive s next) calm next s.pie (turned-calm s next) f.inactive-calm;
    })

-- ── a fresh state ──

settings-fit : (s : Settings) → all (settings_conditions s) ≡ true → SettingsFit s
settings-fit s e =
    let at : (i : ℕ) → get_or (settings_conditions s) i true ≡ true = all-at (settings_conditions s) e in
    record {
      target-low = leb-true _ _ (at 0);
      target-high = leb-true _ _ (at 1);
      buffer-low = leb-true _ _ (at 2);
      buffer-high = leb-true _ _ (at 3);
      slots-low = leb-true _ _ (at 4);
      slots-high = leb-true _ _ (at 5);
      profile-high = leb-true _ _ (at 6);
    }

-- a plain queue is active, and a calm one has probability 0
fresh-calm : (calm : Bool) → InactiveCalm (not calm) calm restarted
fresh-calm true = refl
fresh-calm false = refl

pub made-accepted : (settings : Settings) (clock : ℕ) → (fresh settings clock).answer ≡ made → settings_refused settings clock ≡ false
unfolding fresh
made-accepted settings clock =
    at-cond (λ (r : Reply). r.answer ≡ made → settings_refused settings clock ≡ false) (settings_refused settings clock) (λ b e. cc) (λ b e. b)

pub fresh-well-formed : (settings : Settings) (clock : ℕ) → (fresh settings clock).answer ≡ made → well_formed (fresh settings clock).state ≡ true
unfolding fresh
fresh-well-formed settings clock e =
    let no = made-accepted settings clock e in
    let fine = all (settings_conditions settings) in
    let ok : fine && leb clock latest ≡ true = not-false (fine && leb clock latest) no in
    let time : clock ≤ latest = leb-true _ _ (and_right fine (leb clock latest) ok) in
    let fit = settings-fit settings (and_left fine (leb clock latest) ok) in
    rw no (fits-well-formed (fresh_state settings clock) (record {
      settings = fit;
      last-high = omega arith;
      clock-high = time;
      pie = omega arith;
      rate = rest-fits 0 clock (omega arith);
      backlog = omega arith;
      busy = refl;
      first-high = fit.slots-low;
      total-high = omega arith;
      inactive-calm = fresh-calm (is_calm settings);
    }))
