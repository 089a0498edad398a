-- From fresh, with everything handed back untouched: no call is refused for a link, whatever the tables held.
use Rattle.std.specs.Prelude.{◌≢◌, List, ◌≡◌, ℕ, ◌≤◌, length}
use Rattle.laws.specs.Every.{Every}
use Rattle.store_guarantees.specs.Chains.{fresh_chains}
use Rattle.store_guarantees.specs.Requests.{AllProper, Request, lost, outcomes}

abbrev pub NeverLost : Type 0
NeverLost =
    (slots n : ℕ) (handles sizes : List ℕ) (requests : List Request) →
    1 ≤ slots → slots ≤ 65536 → length handles ≡ slots → length sizes ≡ slots → AllProper n requests →
    Every (λ o. o ≢ lost) (outcomes (fresh_chains slots n handles sizes) requests)
