-- An arrival's words, by whether its verdict admits it.
use mathlib.Core.Path.{◌≡◌, refl, ◌∙◌}
use mathlib.Core.Bool.{true, false}
use mathlib.Core.List.{List}
use Prim.Native.Nat.{ℕ}
use lib.ListN.{length, set}
use Rattle.pie.specs.Verdicts.{admitted}
use Rattle.docsis_pie.specs.declared.Decided.{Decided}
use Rattle.docsis_pie.specs.declared.DocsisPie.{DocsisPie}
use Rattle.modem_flow.specs.Arrival.{arrived_state, decision_of}
use Rattle.modem_words.specs.Words.{state_of, state_words}
use Rattle.modem_words.proofs.Changed.{arrival-words}
use Rattle.modem_steps.specs.Words.{pie_words}
use Rattle.modem_steps.proofs.Words.{QueueSame, arrived-words, entered_words, past-decision}

-- the words w after the rules have decided are d
module _ (w d : List ℕ) (long : length w ≡ 16) where
  pub queue-same : (q : DocsisPie) → d ≡ pie_words w q → (clock : ℕ) → QueueSame w (set d 5 clock)
  queue-same q k clock = rw k (past-decision clock q w long)

  module _ (clock size u : ℕ)
      (k : d ≡ pie_words w (decision_of (state_of w) size u).pie) where
    abbrev decided : Decided
    decided = decision_of (state_of w) size u

    pub entered-ok : admitted (decision_of (state_of w) size u).verdict ≡ true → entered_words (set d 5 clock) w size ≡ state_words (arrived_state (state_of w) clock size decided)
    entered-ok t =
        rw k (rw t at (arrived-words clock size decided w long))
        ∙ arrival-words w (state_of w) clock size u (refl, long)

    pub turned-away : admitted (decision_of (state_of w) size u).verdict ≡ false → set d 5 clock ≡ state_words (arrived_state (state_of w) clock size decided)
    turned-away t =
        rw k (rw t at (arrived-words clock size decided w long))
        ∙ arrival-words w (state_of w) clock size u (refl, long)
