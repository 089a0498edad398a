-- 18: a flow is its PIE state, its count and bytes, and the head and tail of its chain.
use Rattle.std.specs.Prelude.{ℕ}
use Rattle.units.specs.Kinds.{bytes, micros, prob}
use Rattle.pie.specs.declared.Backlog.{Backlog}
use Rattle.pie.specs.declared.Pie.{Pie}
use Rattle.pie.specs.declared.Rate.{Rate}
use Rattle.store.specs.declared.Ends.{Ends}
use Rattle.pie_words.specs.Flags.{flag_word, is_set}
use Rattle.fq_state.specs.declared.Flow.{Flow}

abbrev pub rate_of : Flow → Rate
rate_of f =
    record { average = micros f.average; measuring = is_set f.measuring; start = micros f.start; counted = bytes f.counted }

abbrev pub pie_of : Flow → Pie
pie_of f =
    record {
      prob = prob f.prob;
      old = micros f.old;
      allowance = micros f.allowance;
      accumulated = prob f.accumulated;
      rate = rate_of f;
    }

abbrev pub backlog_of : Flow → Backlog
backlog_of f = record { count = f.count; bytes = bytes f.bytes }

abbrev pub ends_of : Flow → Ends
ends_of f = record { head = f.head; tail = f.tail }

-- a flow with this PIE state, these packets and this chain
unfoldable pub flow_with : Flow → Pie → Backlog → Ends → Flow
flow_with f pie backlog ends =
    record {
      prob = pie.prob.0;
      old = pie.old.0;
      allowance = pie.allowance.0;
      accumulated = pie.accumulated.0;
      average = pie.rate.average.0;
      measuring = flag_word f.measuring pie.rate.measuring;
      start = pie.rate.start.0;
      counted = pie.rate.counted.0;
      count = backlog.count;
      bytes = backlog.bytes.0;
      head = ends.head;
      tail = ends.tail;
    }

-- nothing queued, nothing measured
abbrev pub empty_flow : (allowance : ℕ) → Flow
empty_flow allowance =
    record {
      prob = 0;
      old = 0;
      allowance = allowance;
      accumulated = 0;
      average = 0;
      measuring = 0;
      start = 0;
      counted = 0;
      count = 0;
      bytes = 0;
      head = 0;
      tail = 0;
    }
