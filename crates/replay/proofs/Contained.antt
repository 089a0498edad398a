-- What a log that was read whole holds, by the offset and the count that the reading gave.
use mathlib.Core.Path.{◌≡◌, refl, sym, ap, ◌∙◌}
use mathlib.Core.Bool.{Bool, true, false, cond, not, ◌&&◌}
use mathlib.Core.List.{List}
use Prim.Native.Nat.{ℕ, ◌+◌, ◌*◌, ◌≤◌}
use native.Mathlib.Omega.{arith}
use lib.Dec.{eqb}
use lib.ListN.{length}
use borrow.Author.Tests.{eqb-true, not-false}
use Rattle.laws.proofs.Tests.{and_left, and_right, or-neither}
use Rattle.pie.specs.Verdicts.{total}
use Rattle.refusals.specs.Answer.{made}
use Rattle.ring.specs.Fresh.{fresh, fresh_state, settings_of}
use Rattle.ring.specs.Refusals.{settings_refused}
use Rattle.ring.specs.declared.Settings.{Settings}
use Rattle.ring.specs.declared.State.{State}
use Rattle.ring.proofs.Kept.{fresh-well-formed}
use Rattle.ring_words.specs.Words.{state_of, state_words}
use Rattle.ring_words.proofs.Words.{back, words_long}
use Rattle.log_codec.specs.declared.Header.{Header}
use Rattle.ring_words.specs.Lent.{lent}
use Rattle.ring_steps.specs.Fitting.{Ready}
use Rattle.call_log.specs.Answers.{Answer, given, refused}
use Rattle.call_log.specs.Faults.{header_refused}
use Rattle.call_log.specs.Layout.{count_in, header_in, note_in, offset_in, records_from, records_in}
use Rattle.call_log.specs.Reader.{trailer_refused}
use Rattle.call_log.specs.Whole.{Contents, any_faulty, read_whole, shape_in}
use Rattle.replay.specs.Replay.{fresh_queue, queue_of, refused as misread, replay, replay_from, replay_read}
use Rattle.call_log.proofs.Facts.{sound}
use Rattle.call_log.proofs.Records.{length-note, length-records}

abbrev contents : (log : List ℕ) → Contents
contents l = record { header = header_in l; note = note_in l; records = records_in l }

abbrev shape : Answer (ℕ × ℕ) → ℕ × ℕ
shape (refused number) = (0, 0)
shape (given p) = p

-- nothing refuses a log that has an offset and a count
none-refuses : (t h f : Bool) (c : Contents) (o n : ℕ) →
    shape_in (cond t (refused 11) (cond h (refused 12) (cond f (refused 13) (given c)))) ≡ given (o, n) →
    (t ≡ false) × (h ≡ false) × (f ≡ false) × (32 + length c.note ≡ o) × (length c.records ≡ n)
none-refuses true h f c o n e = let z : ◌≡◌ {A = ℕ} 0 1 = cc in let w : ⊥ = omega arith in absurd w
none-refuses false true f c o n e = let z : ◌≡◌ {A = ℕ} 0 1 = cc in let w : ⊥ = omega arith in absurd w
none-refuses false false true c o n e = let z : ◌≡◌ {A = ℕ} 0 1 = cc in let w : ⊥ = omega arith in absurd w
none-refuses false false false c o n e =
    (refl, refl, refl, ap (λ (a : Answer (ℕ × ℕ)). (shape a).0) e, ap (λ (a : Answer (ℕ × ℕ)). (shape a).1) e)

pub record Contained (l : List ℕ) (o n : ℕ) : Type 0 where
  pub long : o + 40 * n ≤ length l
  pub headed : 32 ≤ length l
  pub started : header_refused (header_in l) ≡ false
  pub read : read_whole l ≡ given (record { header = header_in l; note = note_in l; records = records_from n l o })

pub contained : (l : List ℕ) (o n : ℕ) → shape_in (read_whole l) ≡ given (o, n) → Contained l o n
unfolding read_whole
contained l o n e =
    let p = none-refuses (trailer_refused l) (header_refused (header_in l)) (any_faulty (records_in l)) (contents l) o n e in
    let s = sound l p.0 in
    let eo : offset_in l ≡ o = sym (length-note l s) ∙ p.3 in
    let en : count_in l ≡ n = sym (length-records (count_in l) l (offset_in l)) ∙ p.4 in
    record {
      long = omega arith;
      headed = omega arith;
      started = p.1;
      read = rw (p.0, p.1, p.2, ← eo, ← en);
    }

-- settings that 12 does not refuse are those of a fresh queue
pub fresh-state : (h : Header) → header_refused h ≡ false → let settings = settings_of h.target h.buffer h.slots h.profile in
    (fresh settings h.clock).state ≡ fresh_state settings h.clock
unfolding header_refused fresh
fresh-state h e =
    let settings = settings_of h.target h.buffer h.slots h.profile in
    let p = or-neither (settings_refused settings h.clock) (not (eqb h.unused 0)) e in rw p.0

pub fresh-made : (h : Header) → header_refused h ≡ false → (fresh (settings_of h.target h.buffer h.slots h.profile) h.clock).answer ≡ made
unfolding header_refused fresh
fresh-made h e =
    let settings = settings_of h.target h.buffer h.slots h.profile in
    let p = or-neither (settings_refused settings h.clock) (not (eqb h.unused 0)) e in rw p.0

module _ (l handles sizes : List ℕ) where
  -- a log that the reading refuses
  pub bad-log : (n : ℕ) → shape_in (read_whole l) ≡ refused n → replay l handles sizes ≡ misread n
  unfolding replay
  bad-log n e = go (read_whole l) e
    where
      go : (a : Answer Contents) → shape_in a ≡ refused n → replay_read a handles sizes ≡ misread n
      go (refused m) e = cc
      go (given c) e = let z : ◌≡◌ {A = ℕ} 0 1 = cc in let w : ⊥ = omega arith in absurd w

  module _ (o n : ℕ) (k : Contained l o n) (h : Header) (e : h ≡ header_in l) where
    -- tables that do not fit it
    pub misfits : not (eqb (length handles) h.slots && eqb (length sizes) h.slots) ≡ true → replay l handles sizes ≡ misread 3
    unfolding replay
    misfits t = rw (k.read, rw e at t)

    -- tables that do
    pub fits : not (eqb (length handles) h.slots && eqb (length sizes) h.slots) ≡ false → (s : State) →
        s ≡ (fresh (settings_of h.target h.buffer h.slots h.profile) h.clock).state →
        replay l handles sizes ≡ replay_from 0 (queue_of s handles sizes) (records_from n l o)
    unfolding replay
    fits t s f =
        let g : s ≡ (fresh_queue (header_in l) handles sizes).state = rw e at f ∙ fresh-state (header_in l) k.started in
        rw (k.read, rw e at t, g)

    abbrev settings : Settings
    settings = settings_of h.target h.buffer h.slots h.profile

    started : header_refused h ≡ false
    started = rw e k.started

    -- the words of the fresh state, written over any
    module _ (over w : List ℕ) (s : State) (g : s ≡ (fresh settings h.clock).state) (f : w ≡ state_words over s) where
      pub held : state_of w ≡ (fresh settings h.clock).state
      held =
          let five = ap (λ (s : State). length s.verdicts) (g ∙ fresh-state h started) in
          rw f (back over s five) ∙ g

      -- they are ready for all records of the log
      pub fresh-ready : not (eqb (length handles) h.slots && eqb (length sizes) h.slots) ≡ false → n ≤ 4294967295 → Ready (lent w handles sizes) n
      fresh-ready t most =
          let both = not-false (eqb (length handles) h.slots && eqb (length sizes) h.slots) t in
          let same = held ∙ fresh-state h started in
          let slots : (state_of w).settings.slots ≡ h.slots = ap (λ (s : State). s.settings.slots) same in
          let none : total (state_of w).verdicts ≡ 0 = ap (λ (s : State). total s.verdicts) same in (
            (
              rw f (words_long over s),
              rw held (fresh-well-formed settings h.clock (fresh-made h started)),
              eqb-true _ _ (and_left (eqb (length handles) h.slots) _ both) ∙ sym slots,
              eqb-true _ _ (and_right (eqb (length handles) h.slots) _ both) ∙ sym slots,
            ),
            omega (arith, none, most),
          )
