-- What settings that were read, or refused, tell of the two tests that stand before every answer of the reader.
use mathlib.Core.Path.{◌≡◌, refl}
use mathlib.Core.Bool.{Bool, true, false, cond}
use mathlib.Core.List.{List}
use Prim.Native.Nat.{ℕ}
use Rattle.log_codec.specs.declared.Header.{Header}
use Rattle.call_log.specs.Answers.{Answer, given, refused}
use Rattle.call_log.specs.Faults.{header_refused}
use Rattle.call_log.specs.Layout.{header_in}
use Rattle.call_log.specs.Reader.{if_sound, settings_of, trailer_refused}

pub record Opens (log : List ℕ) : Type 0 where
  pub trailer : trailer_refused log ≡ false
  pub settings : header_refused (header_in log) ≡ false

pub opens : (l : List ℕ) {h : Header} → given h ≡ settings_of l → Opens l
unfolding settings_of
opens l {h} e = go (trailer_refused l) (header_refused (header_in l)) refl refl e
  where
    go : (t s : Bool) → trailer_refused l ≡ t → header_refused (header_in l) ≡ s →
        given h ≡ cond t (refused 11) (cond s (refused 12) (given (header_in l))) → Opens l
    go true s et es e = absurd (cc)
    go false true et es e = absurd (cc)
    go false false et es e = record { trailer = et; settings = es }

pub refuses : {A : Type 0} (l : List ℕ) {n : ℕ} (x : Answer A) → refused n ≡ settings_of l → refused n ≡ if_sound l x
unfolding settings_of
refuses {A} l {n} x e = go (trailer_refused l) (header_refused (header_in l)) e
  where
    go : (t s : Bool) → refused n ≡ cond t (refused 11) (cond s (refused 12) (given (header_in l))) → refused n ≡ cond t (refused 11) (cond s (refused 12) x)
    go true s e = let k : n ≡ 11 = cc in rw k
    go false true e = let k : n ≡ 12 = cc in rw k
    go false false e = absurd (cc)
