-- A record of 64 flows: where the library has an array of 64, a definition has a list. Every call keeps its length.
use Rattle.std.specs.Prelude.{◌≡◌, refl, Bool, true, false, cond, ℕ, zero, suc, length}
use Rattle.std.proofs.lemmas.List.{length-map}
use Rattle.std.proofs.Common.{length-set}
use Rattle.fq_state.specs.Fresh.{fresh, fresh_state, setup_refused, zero_state}
use Rattle.fq_state.specs.State.{State}
use Rattle.fq_state.specs.declared.Settings.{Settings}
use Rattle.fq_rules.specs.Answer.{unless_refused}
use Rattle.fq_guarantees.specs.Acceptance.{acceptance, refusal, reply-unless-refused}
use Rattle.fq_guarantees.specs.Calls.{Call, arrive, depart, reply, update}

pub record Record64 : Type 0 where
  pub state : State
  pub sixty_four : length state.flows ≡ 64

accepted-length : (s : State) (c : Call) → length (acceptance s c).state.flows ≡ length s.flows
accepted-length s (arrive handles sizes clock key handle size ecn u) = length-set s.flows _ _
accepted-length s (depart handles sizes clock) = length-set s.flows _ _
accepted-length s (update clock) = length-map s.flows _

pub same_length : (s : State) (c : Call) → length (reply s c).state.flows ≡ length s.flows
same_length s c = rw (reply-unless-refused s c) (go (refusal s c))
  where
    go : (n : ℕ) → length (unless_refused n s (acceptance s c)).state.flows ≡ length s.flows
    go zero = accepted-length s c
    go (suc n) = refl

-- a fresh record
pub fresh-length : (settings : Settings) (clock : ℕ) → length (fresh settings clock).flows ≡ 64
unfolding fresh
fresh-length settings clock = go (setup_refused settings clock)
  where
    go : (b : Bool) → length (cond b zero_state (fresh_state settings clock)).flows ≡ 64
    go true = refl
    go false = refl

abbrev pub fresh64 : Settings → (clock : ℕ) → Record64
fresh64 settings clock = record { state = fresh settings clock; sixty_four = fresh-length settings clock }
