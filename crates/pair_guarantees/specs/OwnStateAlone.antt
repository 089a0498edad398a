-- A queue's verdicts read its own state alone, but for rule 2: two accepted arrivals with the same arguments, the same own state but for
-- head and tail, and the same truth of rule 2 have the same verdict, whatever the other state, the shared record and the tables are.
use Rattle.std.specs.Prelude.{◌≡◌, Bool, List, ℕ}
use Rattle.pie.specs.declared.Verdict.{Verdict}
use Rattle.refusals.specs.Answer.{verdict}
use Rattle.pair_rules.specs.Queues.{own}
use Rattle.pair_rules.specs.declared.Pair.{Pair}
use Rattle.pair_rules.specs.declared.State.{State}
use Rattle.pair_rules.specs.declared.Which.{Which}
use Rattle.pair_rules.specs.Arrival.{arrival, slots_full}

-- the same but for head and tail
pub record SameButEnds (a b : State) : Type 0 where
  pub settings : a.settings ≡ b.settings
  pub clock : a.clock ≡ b.clock
  pub last : a.last ≡ b.last
  pub pie : a.pie ≡ b.pie
  pub backlog : a.backlog ≡ b.backlog
  pub verdicts : a.verdicts ≡ b.verdicts

-- each call has its records and its tables; the queue may even be the one here and the other there
abbrev pub OwnStateAlone : Type 0
OwnStateAlone =
    (p q : Pair) (w x : Which) (handles sizes handles' sizes' : List ℕ) (clock size : ℕ) (ecn : Bool) (u : ℕ) (v v' : Verdict) →
    SameButEnds (own w p) (own x q) → slots_full p w ≡ slots_full q x →
    (arrival p w handles sizes clock size ecn u).answer ≡ verdict v →
    (arrival q x handles' sizes' clock size ecn u).answer ≡ verdict v' →
    v ≡ v'
