-- Refusal 2 is never given from an accepted fresh call on, over any list of calls, whatever tables each is lent: a table that was written
-- to leads to no malformed record.
use Rattle.std.specs.Prelude.{◌≡◌, ◌≢◌, ℕ}
use mathlib.Core.List.{List, Memᴰ}
use Rattle.calls.specs.Traces.{Entry, trace}
use Rattle.fq_state.specs.Fresh.{fresh_refusal}
use Rattle.fq_state.specs.declared.Settings.{Settings}
use Rattle.fq_rules.specs.Answer.{refused}
use Rattle.fq_guarantees.specs.Calls.{Call}
use Rattle.fq_guarantees.specs.Lists.{fq_calls}
use Rattle.fq_guarantees.specs.SixtyFour.{fresh64}

abbrev pub NeverMalformed : Type 0
NeverMalformed =
    (settings : Settings) (clock : ℕ) (calls : List Call) → fresh_refusal settings clock ≡ 0 →
    (a : Entry fq_calls) → Memᴰ a (trace fq_calls (fresh64 settings clock) calls) → a.answer.answer ≢ refused 2
