-- What holds in each case of what an answer tells holds of every call.
use mathlib.Core.Path.{◌≡◌, ◌∙◌}
use mathlib.Core.Bool.{true, false}
use Prim.Native.Nat.{ℕ}
use Rattle.pie.specs.Update.{updated}
use Rattle.pie.specs.declared.Verdict.{Verdict}
use Rattle.pie_guarantees.specs.Shedding.{Arrived, Departed, Does, Shedding, Sheds, Ticked, Told, Unchanged}
use Rattle.pie_guarantees.specs.Shedding.{decided, departed, nothing, ticked}

module _ (k : Shedding) (sheds : Sheds k) (s : k.kind.State) (c : k.kind.Call) where
  pub at_told : (P : Told → Type 0) →
      (Unchanged k s (k.kind.next s c) → P nothing) →
      ((v : Verdict) → k.Formed s → Arrived k (k.begun s) (k.kind.next s c) c v → P (decided v)) →
      ((size : ℕ) → k.Formed s → Departed k s (k.kind.next s c) c size → P (departed size)) →
      (k.Formed s → Ticked k s (k.kind.next s c) c → P ticked) →
      P (k.tells (k.kind.answer s c))
  at_told P n a d t = go (k.tells (k.kind.answer s c)) (sheds.does s c)
    where
      go : (h : Told) → Does k s (k.kind.next s c) c h → P h
      go nothing x = n x
      go (decided v) x = a v x.0 x.1
      go (departed size) x = d size x.0 x.1
      go ticked x = t x.0 x.1

-- ── a tick, of an active queue and of an inactive one ──

pub active-ticked : (k : Shedding) (s s' : k.kind.State) (c : k.kind.Call) → Ticked k s s' c → k.active s ≡ true →
    k.pie s' ≡ updated (k.pie s) (k.calm s) (k.target s) (k.bytes s)
active-ticked k s s' c x e = x.pie ∙ rw e

pub inactive-ticked : (k : Shedding) (s s' : k.kind.State) (c : k.kind.Call) → Ticked k s s' c → k.active s ≡ false →
    k.pie s' ≡ k.pie s
inactive-ticked k s s' c x e = x.pie ∙ rw e
