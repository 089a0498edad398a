-- What makes an allowance last: the clock until which it does never falls, whatever is called.
use mathlib.Core.Path.{◌≡◌, refl, sym, ap, ◌∙◌}
use mathlib.Core.Bool.{Bool, true, false, cond}
use mathlib.Core.Logic.{⊎_elim}
use mathlib.Core.List.{List, Memᴰ}
use Prim.Native.Nat.{ℕ, ◌+◌, ◌*◌, ◌≤◌, ◌<◌, max}
use native.Mathlib.Omega.{arith}
use borrow.Author.Tests.{lt-ltb}
use Rattle.pie.specs.Constants.{full_allowance, period}
use Rattle.pie.specs.DropDecision.{drop_decision}
use Rattle.pie.specs.Update.{delay_of, next_allowance, next_prob, refills, updated}
use Rattle.pie.specs.declared.Pie.{Pie}
use Rattle.pie.specs.declared.Verdict.{Verdict}
use Rattle.pie.specs.declared.Verdict.TheVariants.{Enqueued}
use Rattle.laws.proofs.Choice.{at-cond}
use Rattle.calls.specs.Traces.{Entry, entry, trace}
use Rattle.calls.proofs.Traces.{Cut, along, cut}
use Rattle.pie_guarantees.specs.AllowanceLasts.{AllowanceLasts, ByLimitsBefore, lasts_until, periods}
use Rattle.pie_guarantees.specs.Grace.{Grace}
use Rattle.pie_guarantees.specs.Shedding.{Begun, InRange, Shedding, Sheds, Ticked, decided, decision, limited, ticked}
use Rattle.pie_guarantees.proofs.AtTold.{active-ticked, at_told, inactive-ticked}

-- an update takes at most one period from the allowance
takes-at-most-a-period : (pie : Pie) (calm : Bool) (target bytes : ℕ) → pie.allowance.0 ≤ full_allowance →
    pie.allowance.0 ≤ (updated pie calm target bytes).allowance.0 + period
unfolding updated next_allowance
takes-at-most-a-period pie calm target bytes h =
    let old = pie.old.0 in
    let delay = delay_of bytes pie.rate.average.0 in
    at-cond (λ n. pie.allowance.0 ≤ n + period) (refills (next_prob calm pie.prob.0 delay old target) delay old target)
    (λ e. omega arith)
    (λ e. omega arith)

-- with allowance left, rule 3 enqueues
allowed-decision : (pie : Pie) (target bytes : ℕ) (ecn : Bool) (u : ℕ) → 0 < pie.allowance.0 → drop_decision pie target bytes ecn u ≡ Enqueued
unfolding drop_decision
allowed-decision pie target bytes ecn u h = rw (lt-ltb 0 pie.allowance.0 h)

-- an inactive queue's allowance counts as full at least: where the queue turns active, it is full
abbrev counted : (active : Bool) (allowance : ℕ) → ℕ
counted active allowance = cond active allowance (max allowance full_allowance)

counted-low : (active : Bool) (allowance : ℕ) → allowance ≤ counted active allowance
counted-low true allowance = omega arith
counted-low false allowance = omega arith

counted-high : (active : Bool) (allowance : ℕ) → allowance ≤ full_allowance → counted active allowance ≤ full_allowance
counted-high true allowance h = omega arith
counted-high false allowance h = omega arith

module _ (k : Shedding) (sheds : Sheds k) where
  abbrev pub allowed : k.kind.State → ℕ
  allowed s = counted (k.active s) (k.pie s).allowance.0

  pub allowed-low : (s : k.kind.State) → (k.pie s).allowance.0 ≤ allowed s
  allowed-low s = counted-low (k.active s) (k.pie s).allowance.0

  pub inactive-allowed : (s : k.kind.State) → k.active s ≡ false → full_allowance ≤ allowed s
  inactive-allowed s e = rw e (omega arith)

  -- the allowance lasts until the clock `end` at least
  abbrev Lasting : (end : ℕ) → k.kind.State → Type 0
  Lasting end s = end ≤ k.last s + period * periods (allowed s)

  same-allowed : (s s' : k.kind.State) → (k.pie s').allowance ≡ (k.pie s).allowance → k.active s' ≡ k.active s →
      allowed s' ≡ allowed s
  same-allowed s s' e f = rw (e, f)

  begun-lasts : (end : ℕ) (s b : k.kind.State) → InRange k s → Begun k s b → Lasting end s → Lasting end b
  begun-lasts end s b r x l =
      ⊎_elim
      (λ same. omega (arith, l, x.last, same-allowed s b (ap (λ (p : Pie). p.allowance) same.0) same.1))
      (λ turned.
      omega (
        arith,
        l,
        x.last,
        counted-high (k.active s) (k.pie s).allowance.0 r.allowance-high,
        allowed-low b,
        ap (λ (p : Pie). p.allowance.0) turned.pie,
      ))
      x.turned

  ticked-lasts : (end : ℕ) (s s' : k.kind.State) (c : k.kind.Call) → InRange k s → Ticked k s s' c → Lasting end s → Lasting end s'
  ticked-lasts end s s' c r x l = go (k.active s) refl
    where
      go : (b : Bool) → k.active s ≡ b → Lasting end s'
      go true e =
          omega (
            arith,
            rw e at l,
            x.due,
            x.last,
            allowed-low s',
            ap (λ (p : Pie). p.allowance.0) (active-ticked k s s' c x e),
            takes-at-most-a-period (k.pie s) (k.calm s) (k.target s) (k.bytes s) r.allowance-high,
          )
      go false e =
          let same = inactive-ticked k s s' c x e in
          omega (arith, l, x.due, x.last, same-allowed s s' (ap (λ (p : Pie). p.allowance) same) (x.active e ∙ sym e))

  next-lasts : (end : ℕ) (s : k.kind.State) → Lasting end s → (c : k.kind.Call) → Lasting end (k.kind.next s c)
  next-lasts end s l c =
      let s' = k.kind.next s c in
      at_told k sheds s c (λ _. Lasting end s')
      (λ x. omega (arith, l, x.last, same-allowed s s' (ap (λ (p : Pie). p.allowance) x.pie) x.active))
      (λ v f x.
      omega (
        arith,
        begun-lasts end s (k.begun s) (sheds.ranges s f) (sheds.begins s) l,
        x.last,
        same-allowed (k.begun s) s' x.allowance x.active,
      ))
      (λ size f x. omega (arith, l, x.last, same-allowed s s' x.allowance x.active))
      (λ f x. ticked-lasts end s s' c (sheds.ranges s f) x l)

  allowed-enqueues : (s : k.kind.State) (c : k.kind.Call) → 0 < allowed s → decision k s c ≡ Enqueued
  allowed-enqueues s c h = go (k.active s) refl
    where
      go : (b : Bool) → k.active s ≡ b → decision k s c ≡ Enqueued
      go true e = rw e (allowed-decision (k.pie s) (k.target s) (k.bytes s) (k.ecn c) (k.u c) (rw e at h))
      go false e = rw e

  lasting-by-limits : (end : ℕ) (s : k.kind.State) → Lasting end s → (c : k.kind.Call) → ByLimitsBefore k end (entry k.kind s c)
  lasting-by-limits end s l c =
      at_told k sheds s c (λ h. (v : Verdict) → h ≡ decided v → k.clock c < end → v ≡ limited k s c Enqueued)
      (λ x v e h. cc)
      (λ w f x v e h.
      let same : v ≡ w = cc in
      let b = k.begun s in
      let begins = sheds.begins s in
      let left : 0 < allowed b = omega (arith, begun-lasts end s b (sheds.ranges s f) begins l, h, x.since) in
      same ∙ x.verdict ∙ ap (limited k b c) (allowed-enqueues b c left) ∙ rw (begins.bytes_full c, begins.slots_full c))
      (λ size f x v e h. cc)
      (λ f x v e h. cc)

  -- below any clock until which it lasts
  pub lasts-before : (end : ℕ) (start : k.kind.State) (calls : List k.kind.Call) →
      end ≤ k.last start + period * periods (allowed start) → (a : Entry k.kind) → Memᴰ a (trace k.kind start calls) → ByLimitsBefore k end a
  lasts-before end start calls h = along k.kind (Lasting end) (ByLimitsBefore k end) (next-lasts end) (lasting-by-limits end) start calls h

  ticked-last : (s : k.kind.State) (c : k.kind.Call) → k.tells (k.kind.answer s c) ≡ ticked → k.last (k.kind.next s c) ≡ k.clock c
  ticked-last s c =
      at_told k sheds s c (λ h. h ≡ ticked → k.last (k.kind.next s c) ≡ k.clock c)
      (λ x e. cc)
      (λ v f x e. cc)
      (λ size f x e. cc)
      (λ f x e. x.last)

  -- after an accepted tick, while the allowance that it returned lasts
  pub ticked-by-limits : {P : k.kind.State → Type 0} (e : Entry k.kind) (later : List (Entry k.kind)) (end : ℕ) →
      Cut k.kind P e later → k.tells e.answer ≡ ticked →
      end ≤ k.clock e.call + period * periods (allowed e.returned) →
      (a : Entry k.kind) → Memᴰ a later → ByLimitsBefore k end a
  ticked-by-limits e later end cut =
      rw (← cut.replied, ← cut.onward)
      (λ told h. lasts-before end (k.kind.next e.given e.call) cut.calls (omega (arith, h, ticked-last e.given e.call told)))

pub allowance-lasts : AllowanceLasts
allowance-lasts k sheds start calls = lasts-before k sheds (lasts_until k start) start calls (omega (arith, allowed-low k sheds start))

-- any state serves: a call that is accepted was given a well-formed one
pub grace : Grace
grace k sheds start calls before e later q told full =
    let here = cut k.kind (λ n x. tt) (λ n s. Unit {0}) (λ n s h c. tt) (tt {0}) start calls before e later tt q in
    ticked-by-limits k sheds e later _ here told (omega (arith, full, allowed-low k sheds e.returned))
