-- How far early verdicts stand apart: the state's accumulated probability is what was added since the last of them.
use mathlib.Core.Path.{◌≡◌, refl, sym, ap, ◌∙◌}
use mathlib.Core.Bool.{Bool, true, false, cond, ◌||◌, false≢true, true≢false}
use mathlib.Core.Logic.{◌⊎◌, inl, inr, ⊎_elim}
use mathlib.Core.List.{List, [], ◌∷◌, ◌++◌, foldl, Memᴰ}
use Prim.Native.Nat.{ℕ, ◌+◌, ◌*◌, ◌≤◌, ◌<◌}
use native.Mathlib.Omega.{arith}
use borrow.Author.Tests.{ltb-false}
use Rattle.units.specs.Kinds.{whole}
use Rattle.pie.specs.Constants.{most_accumulated}
use Rattle.pie.specs.DropDecision.{accumulated_after, drawn, drop_decision, early, early_verdict, marks, spared, sum_is_high, sum_is_low, sum_of}
use Rattle.pie.specs.Update.{updated}
use Rattle.pie.specs.Verdicts.{is_early}
use Rattle.pie.specs.declared.Pie.{Pie}
use Rattle.pie.specs.declared.Verdict.{Verdict}
use Rattle.pie.specs.declared.Verdict.TheVariants.{Enqueued, Marked, DroppedBytes, DroppedSlots, DroppedEarly}
use Rattle.laws.proofs.Choice.{at-cond, either}
use Rattle.calls.specs.Traces.{Entry, entry, trace}
use Rattle.calls.proofs.Traces.{cut, nil-not-cons, same_head, same_rest}
use Rattle.pie_guarantees.specs.Shedding.{Arrived, Shedding, Sheds, Ticked, Told, accumulated_with, decided, decision, limited}
use Rattle.pie_guarantees.specs.Spacing.{added, added_at, added_by, tells_early}
use Rattle.pie_guarantees.specs.EarlyAtMostApart.{EarlyAtMostApart, activates}
use Rattle.pie_guarantees.specs.EarlyAtLeastApart.{EarlyAtLeastApart}
use Rattle.pie_guarantees.proofs.AtTold.{active-ticked, at_told, inactive-ticked}

updated-accumulated : (pie : Pie) (calm : Bool) (target bytes : ℕ) → (updated pie calm target bytes).accumulated ≡ pie.accumulated
unfolding updated
updated-accumulated pie calm target bytes = refl

module _ (k : Shedding) where
  -- what the state has accumulated
  abbrev accumulated : k.kind.State → ℕ
  accumulated s = (k.pie s).accumulated.0

  abbrev answered : k.kind.State → k.kind.Call → Told
  answered s c = k.tells (k.kind.answer s c)

  -- an early verdict leaves 0, any other what was there and what it added
  abbrev after : k.kind.State → Told → ℕ
  after s t = cond (tells_early t) 0 (accumulated s + added_by k s t)

  -- an early verdict's sum is not below 0.85
  abbrev Due : k.kind.State → Verdict → Type 0
  Due s v = is_early v ≡ true → (17 * whole ≤ 20 * (accumulated s + (k.pie s).prob.0)) × (added_at k s v ≡ (k.pie s).prob.0)

  abbrev DueTold : k.kind.State → Told → Type 0
  DueTold s t = tells_early t ≡ true → (17 * whole ≤ 20 * (accumulated s + (k.pie s).prob.0)) × (added_by k s t ≡ (k.pie s).prob.0)

  -- ── one arrival ──

  arrived-next : (s : k.kind.State) (v : Verdict) →
      accumulated_after (k.pie s) (k.target s) (k.bytes s) v ≡ cond (is_early v) 0 (accumulated s + added_at k s v)
  unfolding accumulated_after
  arrived-next s Enqueued = go (spared (k.pie s) (k.target s) (k.bytes s))
    where
      go : (b : Bool) → cond b (accumulated s) (sum_of (k.pie s)) ≡ accumulated s + cond b 0 (k.pie s).prob.0
      go true = omega arith
      go false = refl
  arrived-next s Marked = refl
  arrived-next s DroppedBytes = omega arith
  arrived-next s DroppedSlots = omega arith
  arrived-next s DroppedEarly = refl

  drawn-due : (s : k.kind.State) (ecn : Bool) (u : ℕ) → Due s (drop_decision (k.pie s) (k.target s) (k.bytes s) ecn u)
  unfolding drop_decision drawn
  drawn-due s ecn u =
      let pie = k.pie s in
      either (Due s) (spared pie (k.target s) (k.bytes s)) Enqueued _ (λ e. absurd (false≢true e))
      (at-cond (Due s) (sum_is_low (sum_of pie)) (λ low e. absurd (false≢true e))
      (λ due.
      either (Due s) (sum_is_high (sum_of pie) || early pie.prob.0 u) (early_verdict pie.prob.0 ecn) Enqueued
      (either (Due s) (marks pie.prob.0 ecn) Marked DroppedEarly
      (λ e. (ltb-false (20 * sum_of pie) (17 * whole) due, refl))
      (λ e. (ltb-false (20 * sum_of pie) (17 * whole) due, refl)))
      (λ e. absurd (false≢true e))))

  verdict-due : (s : k.kind.State) (c : k.kind.Call) → Due s (limited k s c (decision k s c))
  verdict-due s c =
      either (Due s) (k.bytes_full s c) DroppedBytes _ (λ e. absurd (false≢true e))
      (either (Due s) (k.slots_full s c) DroppedSlots _ (λ e. absurd (false≢true e))
      (either (Due s) (k.active s) _ Enqueued (drawn-due s (k.ecn c) (k.u c)) (λ e. absurd (false≢true e))))

  -- an inactive queue sheds nothing early, and adds nothing where its probability is 0
  inactive-late : (s : k.kind.State) (c : k.kind.Call) → k.active s ≡ false → is_early (limited k s c (decision k s c)) ≡ false
  inactive-late s c e =
      rw e
      (either (λ v. is_early v ≡ false) (k.bytes_full s c) DroppedBytes _ refl
      (either (λ v. is_early v ≡ false) (k.slots_full s c) DroppedSlots Enqueued refl refl))

  none-added : (s : k.kind.State) (v : Verdict) → (k.pie s).prob.0 ≡ 0 → added_at k s v ≡ 0
  none-added s Enqueued e = either (λ n. n ≡ 0) (spared (k.pie s) (k.target s) (k.bytes s)) 0 (k.pie s).prob.0 refl e
  none-added s Marked e = e
  none-added s DroppedBytes e = refl
  none-added s DroppedSlots e = refl
  none-added s DroppedEarly e = e

  same-added : (s b : k.kind.State) (v : Verdict) → k.pie b ≡ k.pie s → k.target b ≡ k.target s → k.bytes b ≡ k.bytes s →
      added_at k b v ≡ added_at k s v
  same-added s b Enqueued p t n = rw (p, t, n)
  same-added s b Marked p t n = ap (λ (q : Pie). q.prob.0) p
  same-added s b DroppedBytes p t n = refl
  same-added s b DroppedSlots p t n = refl
  same-added s b DroppedEarly p t n = ap (λ (q : Pie). q.prob.0) p

module _ (k : Shedding) (sheds : Sheds k) where
  -- ── one arrival, from the state in which its rules begin ──

  -- whose probability is 0 where the queue is inactive there
  begun-inactive : (s : k.kind.State) → k.Formed s → k.active (k.begun s) ≡ false → (k.pie (k.begun s)).prob.0 ≡ 0
  begun-inactive s f e =
      ⊎_elim
      (λ same. ap (λ (p : Pie). p.prob.0) same.0 ∙ (sheds.ranges s f).inactive (sym same.1 ∙ e))
      (λ turned. absurd (false≢true (sym e ∙ turned.active)))
      (sheds.begins s).turned

  begun-next : (s s' : k.kind.State) (c : k.kind.Call) (v : Verdict) → k.Formed s → let b = k.begun s in
      Arrived k b s' c v → accumulated k s' ≡ cond (is_early v) 0 (accumulated k b + added_at k b v)
  begun-next s s' c v f x = x.accumulated ∙ go (k.active (k.begun s)) refl
    where
      b : k.kind.State
      b = k.begun s

      go : (t : Bool) → k.active b ≡ t → accumulated_with k b v ≡ cond (is_early v) 0 (accumulated k b + added_at k b v)
      go true e = rw e (arrived-next k b v)
      go false e =
          let late : is_early v ≡ false = ap is_early x.verdict ∙ inactive-late k b c e in
          rw (e, late) (omega (arith, none-added k b v (begun-inactive s f e)))

  -- nothing has changed as the rules begin, or the queue has turned active and has accumulated nothing
  arrived-after : (s s' : k.kind.State) (c : k.kind.Call) (v : Verdict) → k.Formed s → Arrived k (k.begun s) s' c v →
      (accumulated k s' ≡ after k s (decided v)) ⊎ ((k.active s ≡ false) × (k.active s' ≡ true) × (accumulated k s' ≡ 0))
  arrived-after s s' c v f x =
      let b = k.begun s in
      let begins = sheds.begins s in
      ⊎_elim
      (λ same.
      let sum : accumulated k b ≡ accumulated k s = ap (λ (p : Pie). p.accumulated.0) same.0 in
      inl (begun-next s s' c v f x ∙ rw (sum, same-added k s b v same.0 begins.target begins.bytes)))
      (λ turned.
      let none = none-added k b v (ap (λ (p : Pie). p.prob.0) turned.pie) in
      let sum : accumulated k b ≡ 0 = ap (λ (p : Pie). p.accumulated.0) turned.pie in
      inr (
        turned.inactive,
        x.active ∙ turned.active,
        begun-next s s' c v f x ∙ rw (sum, none) (either (λ n. n ≡ 0) (is_early v) 0 0 refl refl),
      ))
      begins.turned

  begun-due : (s : k.kind.State) (c : k.kind.Call) (v : Verdict) → v ≡ limited k (k.begun s) c (decision k (k.begun s) c) → Due k s v
  begun-due s c v e early =
      let b = k.begun s in
      let begins = sheds.begins s in
      let due : Due k b v = rw e (verdict-due k b c) in
      ⊎_elim
      (λ same.
      let p = ap (λ (p : Pie). p.prob.0) same.0 in
      let sum = ap (λ (p : Pie). p.accumulated.0) same.0 in
      (omega (arith, (due early).0, p, sum), sym (same-added k s b v same.0 begins.target begins.bytes) ∙ (due early).1 ∙ p))
      (λ turned.
      absurd (omega (
        arith,
        (due early).0,
        ap (λ (p : Pie). p.prob.0) turned.pie,
        ap (λ (p : Pie). p.accumulated.0) turned.pie,
      )))
      begins.turned

  -- ── one call ──

  ticked-sum : (s s' : k.kind.State) (c : k.kind.Call) → Ticked k s s' c → accumulated k s' ≡ accumulated k s
  ticked-sum s s' c x = go (k.active s) refl
    where
      go : (b : Bool) → k.active s ≡ b → accumulated k s' ≡ accumulated k s
      go true e =
          ap (λ (p : Pie). p.accumulated.0) (active-ticked k s s' c x e)
          ∙ ap (λ m. m.0) (updated-accumulated (k.pie s) (k.calm s) (k.target s) (k.bytes s))
      go false e = ap (λ (p : Pie). p.accumulated.0) (inactive-ticked k s s' c x e)

  reply-after : (s : k.kind.State) (c : k.kind.Call) → let s' = k.kind.next s c in
      (accumulated k s' ≡ after k s (answered k s c)) ⊎ ((k.active s ≡ false) × (k.active s' ≡ true) × (accumulated k s' ≡ 0))
  reply-after s c =
      let s' = k.kind.next s c in
      at_told k sheds s c
      (λ t. (accumulated k s' ≡ after k s t) ⊎ ((k.active s ≡ false) × (k.active s' ≡ true) × (accumulated k s' ≡ 0)))
      (λ x. inl (omega (arith, ap (λ (p : Pie). p.accumulated.0) x.pie)))
      (λ v f x. arrived-after s s' c v f x)
      (λ size f x. inl (omega (arith, ap (λ m. m.0) x.accumulated)))
      (λ f x. inl (omega (arith, ticked-sum s s' c x)))

  reply-due : (s : k.kind.State) (c : k.kind.Call) → DueTold k s (answered k s c)
  reply-due s c =
      at_told k sheds s c (DueTold k s)
      (λ x e. absurd (false≢true e))
      (λ v f x. begun-due s c v x.verdict)
      (λ size f x e. absurd (false≢true e))
      (λ f x e. absurd (false≢true e))

  -- ── lists of entries ──

  added-last : (entries : List (Entry k.kind)) (e : Entry k.kind) →
      added k (entries ++ e ∷ []) ≡ added k entries + added_by k e.given (k.tells e.answer)
  added-last [] e = omega arith
  added-last (x ∷ entries) e = omega (arith, added-last entries e)

  abbrev more : ℕ → Entry k.kind → ℕ
  more n e = n + added_by k e.given (k.tells e.answer)

  added-folded : (n : ℕ) (entries : List (Entry k.kind)) → foldl more n entries ≡ n + added k entries
  added-folded n [] = omega arith
  added-folded n (e ∷ entries) = added-folded (more n e) entries ∙ omega arith

  -- no more is accumulated than what was added
  abbrev NoMore : ℕ → k.kind.State → Type 0
  NoMore n s = accumulated k s ≤ n

  next_le : (early : Bool) (n : ℕ) → cond early 0 n ≤ n
  next_le true n = omega arith
  next_le false n = omega arith

  no-more-kept : (n : ℕ) (s : k.kind.State) → NoMore n s → (c : k.kind.Call) → NoMore (more n (entry k.kind s c)) (k.kind.next s c)
  no-more-kept n s h c =
      let t = answered k s c in
      ⊎_elim
      (λ e. omega (arith, e, next_le (tells_early t) (accumulated k s + added_by k s t)))
      (λ turned. omega (arith, turned.2))
      (reply-after s c)

  -- ── at least 0.85 ──

  early-leaves-none : (s : k.kind.State) (c : k.kind.Call) → tells_early (answered k s c) ≡ true → accumulated k (k.kind.next s c) ≡ 0
  early-leaves-none s c e = ⊎_elim (λ same. same ∙ rw e) (λ turned. turned.2) (reply-after s c)

  far-enough : (s : k.kind.State) (calls : List k.kind.Call) (between : List (Entry k.kind)) (next : Entry k.kind)
      (later : List (Entry k.kind)) → accumulated k s ≡ 0 → trace k.kind s calls ≡ between ++ next ∷ later →
      tells_early (k.tells next.answer) ≡ true → 17 * whole ≤ 20 * added k (between ++ next ∷ [])
  far-enough s calls between next later z q e =
      let here = cut k.kind more NoMore no-more-kept 0 s calls between next later (omega arith) q in
      let same : answered k next.given next.call ≡ k.tells next.answer = ap (λ (x : Entry k.kind). k.tells x.answer) here.replied in
      let d = reply-due next.given next.call (ap tells_early same ∙ e) in
      let by : added_by k next.given (k.tells next.answer) ≡ (k.pie next.given).prob.0 = ap (added_by k next.given) (sym same) ∙ d.1 in
      omega (arith, d.0, here.holds, added-folded 0 between, added-last between next, by)

  -- ── less than 8.5 ──

  none-early-adds : (s : k.kind.State) (c : k.kind.Call) → tells_early (answered k s c) ≡ false →
      activates k (entry k.kind s c) ≡ false → accumulated k (k.kind.next s c) ≡ accumulated k s + added_by k s (answered k s c)
  none-early-adds s c e still =
      ⊎_elim (λ same. same ∙ rw e) (λ turned. absurd (true≢false (rw (turned.0, turned.1) at still))) (reply-after s c)

  still-below : (s : k.kind.State) (calls : List k.kind.Call) (between later : List (Entry k.kind)) → k.Formed s →
      trace k.kind s calls ≡ between ++ later →
      ((a : Entry k.kind) → Memᴰ a between → (tells_early (k.tells a.answer) ≡ false) × (activates k a ≡ false)) →
      accumulated k s + added k between < most_accumulated
  still-below s calls [] later f q none = omega (arith, (sheds.ranges s f).accumulated-high)
  still-below s [] (b ∷ bs) later f q none = absurd (nil-not-cons q)
  still-below s (c ∷ cs) (b ∷ bs) later f q none =
      let same : entry k.kind s c ≡ b = same_head q in
      let rest : trace k.kind (k.kind.next s c) cs ≡ bs ++ later = same_rest q in
      let here = none b (Memᴰ.head refl) in
      let e : tells_early (answered k s c) ≡ false = ap (λ (x : Entry k.kind). tells_early (k.tells x.answer)) same ∙ here.0 in
      let still : activates k (entry k.kind s c) ≡ false = ap (activates k) same ∙ here.1 in
      let by : added_by k s (answered k s c) ≡ added_by k b.given (k.tells b.answer)
      = ap (λ (x : Entry k.kind). added_by k x.given (k.tells x.answer)) same in
      omega (
        arith,
        still-below (k.kind.next s c) cs bs later (sheds.kept s c f) rest (λ a m. none a (Memᴰ.tail m)),
        none-early-adds s c e still,
        by,
      )

pub early-at-least-apart : EarlyAtLeastApart
early-at-least-apart k sheds start calls before first between next later q ef en =
    let here = cut k.kind (λ n x. tt) (λ n s. Unit {0}) (λ n s h c. tt) (tt {0}) start calls before first (between ++ next ∷ later) tt q in
    let same : answered k first.given first.call ≡ k.tells first.answer = ap (λ (x : Entry k.kind). k.tells x.answer) here.replied in
    far-enough k sheds _ here.calls between next later
    (early-leaves-none k sheds first.given first.call (ap tells_early same ∙ ef)) here.onward en

pub early-at-most-apart : EarlyAtMostApart
early-at-most-apart k sheds s calls [] between later f q none = let h = still-below k sheds s calls between later f q none in omega (arith, h)
early-at-most-apart k sheds s [] (b ∷ before) between later f q none = absurd (nil-not-cons q)
early-at-most-apart k sheds s (c ∷ cs) (b ∷ before) between later f q none =
    early-at-most-apart k sheds (k.kind.next s c) cs before between later (sheds.kept s c f) (same_rest q) none
