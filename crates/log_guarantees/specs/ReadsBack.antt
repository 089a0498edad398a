-- What was accepted reads back: settings and note as given, the accepted records in order, then the end.
use Rattle.std.specs.Prelude.{◌≡◌, List, ℕ}
use Rattle.log_codec.specs.declared.Header.{Header}
use Rattle.log_codec.specs.declared.Record.{Record}
use Rattle.call_log.specs.Writer.{begin}
use Rattle.log_guarantees.specs.InTurn.{Reads}
use Rattle.log_guarantees.specs.Run.{AllInRange, log_of, run}

abbrev pub ReadsBack : Type 0
ReadsBack =
    (h : Header) (note bytes : List ℕ) (records : List Record) → AllInRange records → (begin h note bytes).refusal ≡ 0 →
    let r = run h note bytes records in Reads (log_of r) (record { header = h; note = note; records = r.accepted })
