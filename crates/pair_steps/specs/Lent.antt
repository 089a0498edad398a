-- What a call knows of what it is lent.
use Rattle.std.specs.Prelude.{◌≡◌, true, List, ℕ, length}
use Rattle.pair_rules.specs.WellFormed.{well_formed}
use Rattle.pair_rules.specs.declared.Which.{Which}
use Rattle.pair_words.specs.Words.{records_of, shared_of}

-- twenty-one words of the called queue, in records that are well formed
pub record Formed (w : Which) (shared own other : List ℕ) : Type 0 where
  pub own_len : length own ≡ 21
  pub formed : well_formed (records_of w shared own other) ≡ true

-- tables of the length that the shared record says
pub record TablesFit (shared handles sizes : List ℕ) : Type 0 where
  pub handles_len : length handles ≡ (shared_of shared).slots
  pub sizes_len : length sizes ≡ (shared_of shared).slots
