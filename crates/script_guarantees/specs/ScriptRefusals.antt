-- In any script: once its `c` is accepted, no request is refused by 1, 2, 3 or 9; where the `c` is refused, each request is, by 2.
use Rattle.std.specs.Prelude.{◌≡◌, ◌≢◌, ℕ}
use mathlib.Core.List.{List, Memᴰ}
use Rattle.refusals.specs.Answer.{made, refused}
use Rattle.ring.specs.Fresh.{fresh, settings_of}
use Rattle.ring_guarantees.specs.Calls.{Entry}
use Rattle.script_guarantees.specs.Asked.{Body, asked, started}
use Rattle.script_guarantees.specs.Entries.{entries_of}

pub record NotByThese (e : Entry) : Type 0 where
  pub not-1 : e.answer ≢ refused 1
  pub not-2 : e.answer ≢ refused 2
  pub not-3 : e.answer ≢ refused 3
  pub not-9 : e.answer ≢ refused 9

abbrev pub ScriptRefusals : Type 0
ScriptRefusals =
    (input : List ℕ) (target buffer slots : ℕ) (body : Body) → asked input ≡ started target buffer slots body →
    (e : Entry) → Memᴰ e (entries_of (asked input)) →
    ((fresh (settings_of target buffer slots 0) 0).answer ≡ made → NotByThese e)
    × ((fresh (settings_of target buffer slots 0) 0).answer ≡ refused 1 → e.answer ≡ refused 2)
