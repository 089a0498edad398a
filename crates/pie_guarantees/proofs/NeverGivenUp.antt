-- No measurement is given up: it starts with 16,384 bytes queued, and what leaves is counted.
use mathlib.Core.Path.{◌≡◌, refl, ap, sym, ◌∙◌}
use mathlib.Core.Bool.{Bool, true, false, cond, false≢true}
use mathlib.Core.Logic.{⊎_elim}
use Prim.Native.Nat.{ℕ, ◌+◌, ◌-◌, ◌≤◌, ◌<◌}
use native.Mathlib.Omega.{arith}
use lib.Dec.{eqb, leb}
use borrow.Author.Tests.{leb-true}
use Rattle.pie.specs.Constants.{threshold}
use Rattle.pie.specs.DepartureRate.{counting, rate_after, starting}
use Rattle.pie.specs.Update.{updated}
use Rattle.pie.specs.Verdicts.{admitted}
use Rattle.pie.specs.declared.Pie.{Pie}
use Rattle.pie.specs.declared.Rate.{Rate}
use Rattle.laws.proofs.Choice.{at-cond}
use Rattle.calls.specs.Traces.{entry}
use Rattle.calls.proofs.Traces.{along}
use Rattle.pie_guarantees.specs.NeverGivenUp.{EnoughQueued, GivesNothingUp, NeverGivenUp}
use Rattle.pie_guarantees.specs.Shedding.{Begun, Shedding, Sheds, Ticked, departed}
use Rattle.pie_guarantees.proofs.AtTold.{active-ticked, at_told, inactive-ticked}

-- of a rate, with so many bytes queued
abbrev Enough : (bytes : ℕ) → Rate → Type 0
Enough bytes r = r.measuring ≡ true → threshold ≤ r.counted.0 + bytes

-- ── a departure ──

module _ (r : Rate) (clock size count_left bytes : ℕ) (fits : size ≤ bytes) (enough : Enough bytes r) where
  counting-enough : r.measuring ≡ true → Enough (bytes - size) (counting r clock size count_left)
  counting-enough runs =
      at-cond (Enough (bytes - size)) (leb threshold (r.counted.0 + size))
      (λ ends m. absurd (false≢true m))
      (λ goes_on.
      at-cond (Enough (bytes - size)) (eqb count_left 0)
      (λ none m. absurd (false≢true m))
      (λ some m. omega (arith, enough runs)))

  starting-enough : (q : Rate) → Enough (bytes - size) q → Enough (bytes - size) (starting q clock (bytes - size))
  starting-enough q k =
      at-cond (Enough (bytes - size)) q.measuring
      (λ runs. k)
      (λ rests.
      at-cond (Enough (bytes - size)) (leb threshold (bytes - size)) (λ many m. omega (arith, leb-true threshold (bytes - size) many)) (λ few. k))

  rate-after-enough : Enough (bytes - size) (rate_after r clock size count_left (bytes - size))
  unfolding rate_after
  rate-after-enough =
      starting-enough (cond r.measuring (counting r clock size count_left) r)
      (at-cond (Enough (bytes - size)) r.measuring counting-enough (λ rests m. absurd (false≢true (rw rests at m))))

-- ── every call ──

-- with the rate as it was and no fewer bytes
still-enough : (bytes bytes' : ℕ) (r r' : Rate) → bytes ≤ bytes' → r' ≡ r → Enough bytes r → Enough bytes' r'
still-enough bytes bytes' r r' h same k = rw same (λ m. omega (arith, h, k m))

updated-rate : (pie : Pie) (calm : Bool) (target bytes : ℕ) → (updated pie calm target bytes).rate ≡ pie.rate
unfolding updated
updated-rate pie calm target bytes = cc

entered-high : (v : Bool) (bytes size : ℕ) → bytes ≤ cond v (bytes + size) bytes
entered-high true bytes size = omega arith
entered-high false bytes size = omega arith

module _ (k : Shedding) (sheds : Sheds k) where
  -- where the queue turns active, no measurement runs
  begun-enough : (s b : k.kind.State) → Begun k s b → EnoughQueued k s → EnoughQueued k b
  begun-enough s b x h =
      ⊎_elim
      (λ same. still-enough (k.bytes s) (k.bytes b) _ _ (omega (arith, x.bytes)) (ap (λ (p : Pie). p.rate) same.0) h)
      (λ turned. rw turned.pie (λ m. absurd (false≢true m)))
      x.turned

  ticked-rate : (s s' : k.kind.State) (c : k.kind.Call) → Ticked k s s' c → (k.pie s').rate ≡ (k.pie s).rate
  ticked-rate s s' c x = go (k.active s) refl
    where
      go : (b : Bool) → k.active s ≡ b → (k.pie s').rate ≡ (k.pie s).rate
      go true e =
          ap (λ (p : Pie). p.rate) (active-ticked k s s' c x e) ∙ updated-rate (k.pie s) (k.calm s) (k.target s) (k.bytes s)
      go false e = ap (λ (p : Pie). p.rate) (inactive-ticked k s s' c x e)

  next-enough : (s : k.kind.State) → EnoughQueued k s → (c : k.kind.Call) → EnoughQueued k (k.kind.next s c)
  next-enough s h c =
      let s' = k.kind.next s c in
      at_told k sheds s c (λ _. EnoughQueued k s')
      (λ x. still-enough (k.bytes s) (k.bytes s') _ _ (omega (arith, x.bytes)) (ap (λ (p : Pie). p.rate) x.pie) h)
      (λ v f x.
      let b = k.begun s in
      still-enough (k.bytes b) (k.bytes s') _ _ (omega (arith, x.bytes, entered-high (admitted v) (k.bytes b) (k.size c))) x.rate
      (begun-enough s b (sheds.begins s) h))
      (λ size f x.
      still-enough (k.bytes s - size) (k.bytes s') _ _ (omega (arith, x.bytes)) x.rate
      (rate-after-enough (k.pie s).rate (k.clock c) size (k.count s - 1) (k.bytes s) x.fits h))
      (λ f x. still-enough (k.bytes s) (k.bytes s') _ _ (omega (arith, x.bytes)) (ticked-rate s s' c x) h)

  entry-gives-nothing-up : (s : k.kind.State) → EnoughQueued k s → (c : k.kind.Call) → GivesNothingUp k (entry k.kind s c)
  entry-gives-nothing-up s h c =
      record {
        enough = h;
        others =
            at_told k sheds s c
            (λ t. (size : ℕ) → t ≡ departed size → (k.pie s).rate.measuring ≡ true → (k.pie s).rate.counted.0 + size < threshold → 1 < k.count s)
            (λ x size e m l. let z : ◌≡◌ {A = ℕ} 0 1 = cc in omega arith)
            (λ v f x size e m l. let z : ◌≡◌ {A = ℕ} 0 1 = cc in omega arith)
            (λ size₁ f x size e m l.
            let same : size₁ ≡ size = cc in omega (arith, same, h m, l, x.others, x.some, x.fits))
            (λ f x size e m l. let z : ◌≡◌ {A = ℕ} 0 1 = cc in omega arith);
      }

pub never-given-up : NeverGivenUp
never-given-up k sheds start calls rests =
    along k.kind (EnoughQueued k) (GivesNothingUp k) (next-enough k sheds) (entry-gives-nothing-up k sheds) start calls
    (λ m. absurd (false≢true (sym rests ∙ m)))
