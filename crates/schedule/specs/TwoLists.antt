-- 18: a list of new flows and a list of old flows, each by their numbers, and a deficit for each flow.
use Rattle.std.specs.Prelude.{cond, List, [], ◌∷◌, ℕ, ◌+◌, eqb, get_or}

pub record TwoLists : Type 0 where
  pub new : List ℕ
  pub old : List ℕ
  -- a deficit d, from −65,535 to 1,514, is kept as the number d + 65,535
  pub deficits : List ℕ

abbrev pub lists : (new old deficits : List ℕ) → TwoLists
lists new old deficits = record { new = new; old = old; deficits = deficits }

abbrev pub quantum : ℕ
quantum = 1514

-- how the deficit 0 is kept
abbrev pub zero_deficit : ℕ
zero_deficit = 65535

abbrev pub deficit_of : TwoLists → (flow : ℕ) → ℕ
deficit_of l flow = get_or l.deficits flow 0

-- how often a flow stands in a list
unfoldable pub occurs : (flow : ℕ) → List ℕ → ℕ
occurs flow [] = 0
occurs flow (x ∷ l) = cond (eqb x flow) 1 0 + occurs flow l

-- how often it stands in both
abbrev pub listed : (flow : ℕ) → TwoLists → ℕ
listed flow l = occurs flow l.new + occurs flow l.old
