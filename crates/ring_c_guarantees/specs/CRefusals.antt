-- Demand 1 for C calls: any call, on any words, with any tables and any numbers. It is refused exactly when one of its tests holds, by the
-- lowest number whose test holds, with 100 added; a refused call leaves words and tables as they were, and a refused departure writes the
-- packet 0, 0. obikuteru_fresh writes all its words, refused or not: refused, 23 zeros, which every later call answers 102 on.
use Rattle.std.specs.Prelude.{◌≡◌, Bool, true, false, cond, ◌↔◌, ℕ, ◌+◌, ◌≤◌, length, replicate}
use mathlib.Core.List.{List, [], ◌∷◌, Memᴰ}
use Rattle.calls.specs.Requests.{Request}
use Rattle.ring.specs.Arrival.{arrival_refusals}
use Rattle.ring.specs.Calls.{Call, arrive, depart, update}
use Rattle.ring.specs.Departure.{departure_refusals, head_of}
use Rattle.ring.specs.Fresh.{settings_of}
use Rattle.ring.specs.Refusals.{settings_refused}
use Rattle.ring.specs.State.{well_formed}
use Rattle.ring.specs.Tick.{tick_refusals}
use Rattle.ring_words.specs.Lent.{Lent, code_given, code_to, leaves, packet_written, words_left}
use Rattle.ring_words.specs.Words.{state_of}
use Rattle.ring_c_guarantees.specs.CHanded.{fresh_code, fresh_queue}

-- the call's rows of the table of refusals on these words: each number with its test
abbrev pub rows_in : (words : List ℕ) → Call → List (ℕ × Bool)
rows_in w (arrive handles sizes clock handle size ecn u) = arrival_refusals (state_of w) (length handles) (length sizes) clock size
rows_in w (depart handles sizes clock) =
    departure_refusals (state_of w) (length handles) (length sizes) clock (head_of (state_of w) sizes)
rows_in w (update clock) = tick_refusals (state_of w) clock

-- the test of this number holds
abbrev pub CApplies : (words : List ℕ) → Call → (number : ℕ) → Type 0
CApplies w c number = Memᴰ (number, true) (rows_in w c)

pub record CRefusedInOrder (words : List ℕ) (c : Call) : Type 0 where
  -- 100 and a number are answered exactly where the number applies and no lower one does
  pub lowest : (n : ℕ) → (code_given words c ≡ 100 + n) ↔ (CApplies words c n × ((m : ℕ) → CApplies words c m → n ≤ m))
  -- where a number applies, the call is refused
  pub refuses : (m : ℕ) → CApplies words c m → 100 ≤ code_given words c
  -- a refused call leaves its words
  pub unchanged : 100 ≤ code_given words c → words_left words c ≡ words

-- obikuteru_fresh answers 101 exactly when its settings or its clock are out of range, and else 0
pub record CFreshInOrder (q : Lent) (target buffer slots profile clock : ℕ) : Type 0 where
  pub code : fresh_code target buffer slots profile clock ≡ cond (settings_refused (settings_of target buffer slots profile) clock) 101 0
  pub zeros : fresh_code target buffer slots profile clock ≡ 101 → (fresh_queue q target buffer slots profile clock).words ≡ replicate 23 0
  pub zeros-malformed : well_formed (state_of (replicate 23 0)) ≡ false
  pub formed :
      fresh_code target buffer slots profile clock ≡ 0 →
      well_formed (state_of (fresh_queue q target buffer slots profile clock).words) ≡ true

pub record CRefusals : Type 0 where
  pub calls : (words : List ℕ) (c : Call) → CRefusedInOrder words c
  -- words and both tables
  pub untouched : (q : Lent) (r : Request) → 100 ≤ code_to q r → leaves q r ≡ q
  pub no-packet : (words handles sizes : List ℕ) (clock : ℕ) →
      let c = depart handles sizes clock in 100 ≤ code_given words c → packet_written words c ≡ 0 ∷ 0 ∷ []
  pub starts : (q : Lent) (target buffer slots profile clock : ℕ) → CFreshInOrder q target buffer slots profile clock
