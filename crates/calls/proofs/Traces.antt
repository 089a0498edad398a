-- What every call keeps holds all along a trace, and wherever it is cut.
use mathlib.Core.Path.{◌≡◌, refl}
use mathlib.Core.List.Memᴰ
use mathlib.Core.List.{List, [], ◌∷◌, ◌++◌, foldl, Memᴰ}
use mathlib.Core.Logic.{⊎_elim}
use Prim.Native.Nat.{ℕ}
use native.Mathlib.Omega.{arith}
use Rattle.calls.specs.Kind.{Kind}
use Rattle.calls.specs.Traces.{Entry, entry, trace}

-- what a kept property gives of each call, all entries of the trace have
pub along : (k : Kind) (P : k.State → Type 0) (Q : Entry k → Type 0) →
    ((s : k.State) → P s → (c : k.Call) → P (k.next s c)) → ((s : k.State) → P s → (c : k.Call) → Q (entry k s c)) →
    (s : k.State) (calls : List k.Call) → P s → (a : Entry k) → Memᴰ a (trace k s calls) → Q a
along k P Q keep give s [] p a m = absurd (Memᴰ.not-nil m)
along k P Q keep give s (c ∷ cs) p a m =
    ⊎_elim (λ e. rw e (give s p c)) (λ n. along k P Q keep give (k.next s c) cs (keep s p c) a n) (Memᴰ.cases_cons m)

-- ── equal lists ──

pub nil-not-cons : {A : Type 0} {y : A} {ys : List A} → [] ≡ y ∷ ys → ⊥
nil-not-cons e = let z : ◌≡◌ {A = ℕ} 0 1 = cc in omega arith

pub same_head : {A : Type 0} {x y : A} {xs ys : List A} → x ∷ xs ≡ y ∷ ys → x ≡ y
same_head e = cc

pub same_rest : {A : Type 0} {x y : A} {xs ys : List A} → x ∷ xs ≡ y ∷ ys → xs ≡ ys
same_rest e = cc

-- ── where a trace is cut ──

-- an entry of a trace with the entries after it: its call got a state of which P holds, and the later entries are the trace from what it
-- returned
pub record Cut (k : Kind) (P : k.State → Type 0) (e : Entry k) (later : List (Entry k)) : Type 0 where
  pub holds : P e.given
  pub calls : List k.Call
  pub replied : entry k e.given e.call ≡ e
  pub onward : trace k (k.next e.given e.call) calls ≡ later

-- P holds of a state and a note of the entries up to it
module _ (k : Kind) {N : Type 0} (note : N → Entry k → N) (P : N → k.State → Type 0)
    (keep : (n : N) (s : k.State) → P n s → (c : k.Call) → P (note n (entry k s c)) (k.next s c)) where
  pub cut : (n : N) (s : k.State) (calls : List k.Call) (before : List (Entry k)) (e : Entry k) (later : List (Entry k)) →
      P n s → trace k s calls ≡ before ++ e ∷ later → Cut k (P (foldl note n before)) e later
  cut n s [] [] e later p q = absurd (nil-not-cons q)
  cut n s [] (b ∷ bs) e later p q = absurd (nil-not-cons q)
  cut n s (c ∷ cs) [] e later p q =
      let same : entry k s c ≡ e = same_head q in
      let rest : trace k (k.next s c) cs ≡ later = same_rest q in
      rw (← same) (record { holds = p; calls = cs; replied = refl; onward = rest })
  cut n s (c ∷ cs) (b ∷ bs) e later p q =
      let same : entry k s c ≡ b = same_head q in
      let rest : trace k (k.next s c) cs ≡ bs ++ e ∷ later = same_rest q in
      rw (← same) (cut (note n (entry k s c)) (k.next s c) cs bs e later (keep n s p c) rest)
